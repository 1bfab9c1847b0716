-- What is read is a vehicle package.
use Rattle.std.proofs.Common.{◌≡◌, ℕ, zero, suc, ◌+◌, ◌<◌, ◌≤◌, true, false, not, nat_lt, nat_le, List, [], ◌∷◌, ◌++◌, length, take, drop, map, Option, Some, None, Result, Ok, Err, refl, sym, ◌∙◌, ap, subst, arith, append_assoc, take-append-drop, inl, inr, w16}
use Rattle.std.specs.Int.{from_be_bytes, to_be_bytes}
use Rattle.std.specs.List.{AllByRecursion, flat_map}
use Rattle.std.specs.Str.{bytes_eq}
use Rattle.std.specs.Prelude.{ok_or}
use Rattle.std.proofs.lemmas.Bool.{and_parts, cases_lt, leb-true, ltb-false, not-false}
use Rattle.std.proofs.lemmas.List.{append_cancel_right, drop-drop, get_or-drop, get_or-take, get_or_past, length-append, length-drop, length-map, length-take, length-take-le, take_all}
use Rattle.std.proofs.lemmas.List.Concat.{flat_map-cons}
use Rattle.std.proofs.lemmas.Nat.{be_bytes_2}
use Rattle.std.proofs.lemmas.Slice.Eq.{bytes_eq-Decides}
use Rattle.sha2.specs.Sha256.{sha256}
use Rattle.wire.specs.Fields.{bytes_field, u16_field}
use Rattle.ucm_base.specs.Limits.{carried_limit, package_limit, plan_limit, vehicle_limit}
use Rattle.ucm_base.specs.Parts.{Bytes}
use Rattle.ucm_base.specs.declared.parts.Part.{Part}
use Rattle.package_reader.specs.Fields.{bytes_of, end_of, has_digest_at, number_at}
use Rattle.package_reader.specs.Packed.{PackedOf}
use Rattle.package_reader.specs.Reading.{reading}
use Rattle.package_reader.specs.Spelling.{AreBytes}
use Rattle.package_reader.specs.declared.fault.PackageError.{PackageError}
use Rattle.package_reader.specs.declared.span.Span.{Span}
use Rattle.package_reader.proofs.Blocks.{Stands, stands-spelled}
use Rattle.package_reader.proofs.Readings.{reading_is_package}
use Rattle.vehicle_package.specs.Changes.{twice_in}
use Rattle.vehicle_package.specs.Fields.{◌>>=◌, FieldsOf, block_at, count_at, end_at, fields_of, is_count, mark, packages_at, short_at, start_of}
use Rattle.vehicle_package.specs.Plan.{plan_of}
use Rattle.vehicle_package.specs.Reading.{carried, each_once, package_in, packages_in, unless_twice, vehicle_of}
use Rattle.vehicle_package.specs.Spelling.{IsCarried, IsVehicle, body, spelling}
use Rattle.vehicle_package.specs.declared.changes.Change.{Change}
use Rattle.vehicle_package.specs.declared.fault.VehicleError.{VehicleError}
use Rattle.vehicle_package.specs.declared.vehicle.Step.{Step}
use Rattle.vehicle_package.specs.declared.vehicle.Vehicle.{Vehicle}
use Rattle.vehicle_package.proofs.Steps.{bind_ok, cond_ok, guard_ok, ok_is, ok_some}

AreBytes-drop : (n : ℕ) (bytes : Bytes) → AreBytes bytes → AreBytes (drop n bytes)
AreBytes-drop n bytes small i = rw get_or-drop (small (n + i))

AreBytes-take : (n : ℕ) (bytes : Bytes) → AreBytes bytes → AreBytes (take n bytes)
AreBytes-take n bytes small i =
    elim (cases_lt i n) [
      | inl lt ↦ rw (get_or-take n bytes i 0 lt) (small i)
      | inr le ↦ rw (get_or_past (take n bytes) i 0 (omega (arith, length-take n bytes))) (omega arith)
    ]

-- a block lies behind its length, within its limit
pub block_stands : (bytes : Bytes) (most place : ℕ) (span : Span) → block_at bytes most place ≡ Ok span
    → Stands bytes place span × (span.len ≤ most)
unfolding block_at
block_stands bytes most place span e =
    let a = guard_ok (nat_lt (length bytes) (place + 4)) _ _ span e in
    let m = guard_ok (nat_lt most (number_at bytes place)) _ _ span a.1 in
    let b = guard_ok (nat_lt (length bytes) (place + 4 + number_at bytes place)) _ _ span m.1 in
    let is = ok_is _ _ b.1 in
    let long = ltb-false _ _ b.0 in
    let short = ltb-false _ _ m.0 in (
      record {
        at = ap (λ (s : Span). s.at) (sym is);
        number = ap (λ (s : Span). s.len) is;
        within = subst (λ (s : Span). end_of s ≤ length bytes) is long;
      },
      subst (λ (s : Span). s.len ≤ most) is short,
    )

-- the packages of these bytes, as they were read
carried_by : (index : ℕ) (bytes : Bytes) (p : PackedOf) (read : Result (List (Part Bytes)) PackageError)
    → carried index bytes read ≡ Ok p → (read ≡ Ok p.parts) × (p.bytes ≡ bytes)
carried_by index bytes p (Ok parts) e =
    let is = ok_is (record { bytes = bytes; parts = parts }) p e in
    (ap (λ (q : PackedOf). Ok q.parts) is, ap (λ (q : PackedOf). q.bytes) (sym is))
carried_by index bytes p (Err fault) e = absurd cc

nothing_twice : (change : Option Change) (u : Unit {0}) → unless_twice change ≡ Ok u → change ≡ None
nothing_twice None u e = refl
nothing_twice (Some c) u e = absurd cc

module _ (bytes : Bytes) (bytes-are : AreBytes bytes) where
  record Counts (place n : ℕ) : Type 0 where
    parts : drop place bytes ≡ u16_field n ++ drop (place + 2) bytes
    within : place + 2 ≤ length bytes
    some : 1 ≤ n
    few : n ≤ carried_limit

  counts : (place n : ℕ) → count_at bytes place ≡ Ok n → Counts place n
  unfolding count_at
  counts place n e =
      let a = guard_ok (nat_lt (length bytes) (place + 2)) _ _ n e in
      let b = cond_ok (is_count (short_at bytes place)) _ (short_at bytes place) n a.1 in
      let both = and_parts (nat_le 1 (short_at bytes place)) (nat_le (short_at bytes place) carried_limit) b.0 in
      let within = ltb-false _ _ a.0 in
      let here = take 2 (drop place bytes) in
      let field : to_be_bytes w16 n ≡ here =
      be_bytes_2 here n (length-take-le 2 (drop place bytes) (omega (arith, length-drop place bytes, within)))
      (AreBytes-take 2 (drop place bytes) (AreBytes-drop place bytes bytes-are)) (sym b.1) in
      record {
        parts = sym (take-append-drop 2 (drop place bytes)) ∙ (λ i. sym field i ++ drop-drop 2 place bytes i);
        within = within;
        some = omega (arith, leb-true 1 (short_at bytes place) both.0, b.1);
        few = omega (arith, leb-true (short_at bytes place) carried_limit both.1, b.1);
      }

  record Takes (n place : ℕ) (spans : List Span) (end : ℕ) : Type 0 where
    parts : drop place bytes ≡ flat_map bytes_field (map (bytes_of bytes) spans) ++ drop end bytes
    within : end ≤ length bytes
    many : length spans ≡ n
    small : AllByRecursion (λ s. length (bytes_of bytes s) ≤ package_limit) spans

  taken : (n place : ℕ) (spans : List Span) (end : ℕ) → place ≤ length bytes
      → packages_at n bytes place ≡ Ok (spans, end) → Takes n place spans end
  unfolding packages_at
  taken zero place spans end within e =
      subst (λ (x : List Span × ℕ). Takes zero place x.0 x.1) (ok_is ([], place) (spans, end) e)
      (record { parts = refl; within = within; many = refl; small = tt })
  taken (suc n) place spans end within e =
      let a = bind_ok (block_at bytes package_limit place) _ (spans, end) e in
      let s = a.0 in
      let b = bind_ok (packages_at n bytes (end_of s)) _ (spans, end) a.2 in
      let stands = block_stands bytes package_limit place s a.1 in
      let one = stands-spelled bytes place s bytes-are stands.0 in
      let more = taken n (end_of s) b.0.0 b.0.1 stands.0.within b.1 in
      let here = bytes_of bytes s in
      subst (λ (x : List Span × ℕ). Takes (suc n) place x.0 x.1) (ok_is (s ∷ b.0.0, b.0.1) (spans, end) b.2) (record {
        parts = one.parts ∙ ap (λ xs. bytes_field here ++ xs) more.parts
            ∙ sym (append_assoc (bytes_field here) (flat_map bytes_field (map (bytes_of bytes) b.0.0))
            (drop b.0.1 bytes))
            ∙ ap (λ xs. xs ++ drop b.0.1 bytes) (sym (flat_map-cons bytes_field here (map (bytes_of bytes) b.0.0)));
        within = more.within;
        many = ap suc more.many;
        small = (omega (arith, one.size, stands.1), more.small);
      })

  reads : (i : ℕ) (spans : List Span) (ps : List PackedOf)
      → AllByRecursion (λ s. length (bytes_of bytes s) ≤ package_limit) spans
      → packages_in i (map (bytes_of bytes) spans) ≡ Ok ps
      → (map (λ p. p.bytes) ps ≡ map (bytes_of bytes) spans) × AllByRecursion IsCarried ps
  reads i [] ps small e =
      subst (λ (qs : List PackedOf). (map (λ p. p.bytes) qs ≡ []) × AllByRecursion IsCarried qs) (ok_is [] ps e) (
        refl,
        tt,
      )
  reads i (s ∷ spans) ps small e =
      let here = bytes_of bytes s in
      let a = bind_ok (package_in i here) _ ps e in
      let b = bind_ok (packages_in (i + 1) (map (bytes_of bytes) spans)) _ ps a.2 in
      let one = carried_by i here a.0 (reading here) a.1 in
      let more = reads (i + 1) spans b.0 small.1 b.1 in
      let is : IsCarried a.0 = record {
        small = subst (λ (xs : Bytes). length xs ≤ package_limit) (sym one.1) small.0;
        is = reading_is_package a.0.bytes a.0.parts
            (subst AreBytes (sym one.1) (AreBytes-take s.len (drop s.at bytes) (AreBytes-drop s.at bytes bytes-are)))
            (ap reading one.1 ∙ one.0);
      } in
      subst (λ (qs : List PackedOf). (map (λ p. p.bytes) qs ≡ here ∷ map (bytes_of bytes) spans)
      × AllByRecursion IsCarried qs) (ok_is (a.0 ∷ b.0) ps b.2)
      ((λ j. one.1 j ∷ more.0 j), (is, more.1))

  -- the digest ends the bytes
  ended : (place : ℕ) (u : Unit {0}) → end_at bytes place ≡ Ok u → drop place bytes ≡ sha256 (take place bytes)
  ended place u e =
      let a = guard_ok (not (has_digest_at bytes place)) _ _ _ e in
      let b = guard_ok (nat_lt (place + 32) (length bytes)) _ _ _ a.1 in
      let digest = (bytes_eq-Decides (sha256 (take place bytes)) (take 32 (drop place bytes))).0 (not-false _ a.0) in
      sym (take_all 32 (drop place bytes) (omega (arith, length-drop place bytes, ltb-false _ _ b.0))) ∙ sym digest

  record Fits (f : FieldsOf) : Type 0 where
    whole : length bytes ≤ vehicle_limit
    spelled : bytes ≡ spelling (bytes_of bytes f.plan) (map (bytes_of bytes) f.packages)
    short : length (bytes_of bytes f.plan) ≤ plan_limit
    some : 1 ≤ length f.packages
    few : length f.packages ≤ carried_limit
    small : AllByRecursion (λ s. length (bytes_of bytes s) ≤ package_limit) f.packages

  fits : (f : FieldsOf) → fields_of bytes ≡ Ok f → Fits f
  unfolding fields_of
  fits f e =
      let a = bind_ok (start_of bytes) _ f e in
      let p = bind_ok (block_at bytes plan_limit 4) _ f a.2 in
      let n = bind_ok (count_at bytes (end_of p.0)) _ f p.2 in
      let w = bind_ok (packages_at n.0 bytes (end_of p.0 + 2)) _ f n.2 in
      let d = bind_ok (end_at bytes w.0.1) _ f w.2 in
      let long = guard_ok (nat_lt vehicle_limit (length bytes)) _ _ a.0 a.1 in
      let marked = guard_ok (not (bytes_eq mark (take 4 bytes))) _ _ a.0 long.1 in
      let first : mark ≡ take 4 bytes = (bytes_eq-Decides mark (take 4 bytes)).0 (not-false _ marked.0) in
      let stands = block_stands bytes plan_limit 4 p.0 p.1 in
      let plan = stands-spelled bytes 4 p.0 bytes-are stands.0 in
      let count = counts (end_of p.0) n.0 n.1 in
      let walked = taken n.0 (end_of p.0 + 2) w.0.0 w.0.1 count.within w.1 in
      let text = bytes_of bytes p.0 in
      let packages = map (bytes_of bytes) w.0.0 in
      let flat = flat_map bytes_field packages in
      let rest = drop w.0.1 bytes in
      let many : n.0 ≡ length packages = sym (length-map w.0.0 (bytes_of bytes) ∙ walked.many) in
      let parts : bytes ≡ mark ++ (bytes_field text ++ (u16_field n.0 ++ (flat ++ rest))) =
      sym (take-append-drop 4 bytes)
      ∙ (λ i. sym first i
      ++ (plan.parts ∙ ap (λ xs. bytes_field text ++ xs) (count.parts
      ∙ ap (λ xs. u16_field n.0 ++ xs) walked.parts)) i) in
      let count-field = u16_field (length packages) in
      let joined : mark ++ (bytes_field text ++ (count-field ++ (flat ++ rest))) ≡ body text packages ++ rest =
      sym (append_assoc mark (bytes_field text) (count-field ++ (flat ++ rest)))
      ∙ sym (append_assoc (mark ++ bytes_field text) count-field (flat ++ rest))
      ∙ sym (append_assoc ((mark ++ bytes_field text) ++ count-field) flat rest) in
      let all : bytes ≡ body text packages ++ rest =
      parts ∙ ap (λ k. mark ++ (bytes_field text ++ (u16_field k ++ (flat ++ rest)))) many ∙ joined in
      let before : take w.0.1 bytes ≡ body text packages =
      append_cancel_right (take w.0.1 bytes) (body text packages) rest (take-append-drop w.0.1 bytes ∙ all) in
      subst Fits (ok_is (record { plan = p.0; packages = w.0.0 }) f d.2) (record {
        whole = ltb-false _ _ long.0;
        spelled = all ∙ ap (λ xs. body text packages ++ xs) (ended w.0.1 d.0 d.1 ∙ ap sha256 before);
        short = omega (arith, plan.size, stands.1);
        some = omega (arith, walked.many, count.some);
        few = omega (arith, walked.many, count.few);
        small = walked.small;
      })

  pub reading_is_vehicle : (v : Vehicle) → vehicle_of bytes ≡ Ok v → IsVehicle bytes v
  unfolding vehicle_of
  reading_is_vehicle v e =
      let a = bind_ok (fields_of bytes) _ v e in
      let s = bind_ok (ok_or (plan_of (length a.0.packages) (bytes_of bytes a.0.plan)) _) _ v a.2 in
      let p = bind_ok (packages_in 0 (map (bytes_of bytes) a.0.packages)) _ v s.2 in
      let o = bind_ok (each_once p.0 s.0) _ v p.2 in
      let fit = fits a.0 a.1 in
      let found = reads 0 a.0.packages p.0 fit.small p.1 in
      let many : length a.0.packages ≡ length p.0 = sym (length-map a.0.packages (bytes_of bytes))
      ∙ ap length (sym found.0) ∙ length-map p.0 (λ (q : PackedOf). q.bytes) in
      subst (IsVehicle bytes) (ok_is (record { steps = s.0; packages = p.0 }) v o.2) (record {
        plan = bytes_of bytes a.0.plan;
        spelled = fit.spelled ∙ ap (spelling (bytes_of bytes a.0.plan)) (sym found.0);
        whole = fit.whole;
        short = fit.short;
        steps = ap (λ n. plan_of n (bytes_of bytes a.0.plan)) (sym many) ∙ ok_some _ _ s.0 s.1;
        some = omega (arith, many, fit.some);
        few = omega (arith, many, fit.few);
        each = found.1;
        once = nothing_twice (twice_in p.0 s.0) o.0 o.1;
      })
