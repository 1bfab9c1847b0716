-- Packages found one after the other, and read one after the other.
use Rattle.std.proofs.Common.{◌≡◌, ℕ, suc, ◌-◌, ◌+◌, ◌≤◌, ◌<◌, List, [], ◌∷◌, ◌++◌, length, drop, get_or, Result, Ok, Err, refl, sym, ap, ◌∙◌, append_assoc, arith, add-one}
use Rattle.std.specs.Prelude.{map}
use Rattle.std.proofs.lemmas.List.{append-nil}
use Rattle.std.proofs.Math.Seq.{drop-cons}
use Rattle.ucm_base.specs.Limits.{package_limit}
use Rattle.ucm_base.specs.Parts.{Bytes}
use Rattle.package_reader.specs.Fields.{end_of}
use Rattle.package_reader.specs.Packed.{PackedOf}
use Rattle.package_reader.specs.declared.span.Span.{Span}
use Rattle.vehicle_package.specs.Fields.{◌>>=◌, block_at, packages_at}
use Rattle.vehicle_package.specs.Reading.{package_in, packages_in}
use Rattle.vehicle_package.specs.declared.fault.VehicleError.{VehicleError}

-- what was found before, and what is still found
abbrev pub with_front : List Span → Result (List Span × ℕ) VehicleError → Result (List Span × ℕ) VehicleError
with_front front found = found >>= λ x. Ok (front ++ x.0, x.1)

regroup : (front : List Span) (p : Span) (found : Result (List Span × ℕ) VehicleError)
    → with_front front (found >>= λ x. Ok (p ∷ x.0, x.1)) ≡ with_front (front ++ p ∷ []) found
regroup front p (Ok x) = ap (λ (ps : List Span). Ok (ps, x.1)) (simp append_assoc)
regroup front p (Err e) = refl

module _ (front : List Span) (count i place : ℕ) (bytes : Bytes) (all : Result (List Span × ℕ) VehicleError)
    (so-far : with_front front (packages_at (count - i) bytes place) ≡ all) where
  -- one package more
  pub goes-on : (p : Span) → i < count → block_at bytes package_limit place ≡ Ok p
      → with_front (front ++ p ∷ []) (packages_at (count - (i + 1)) bytes (end_of p)) ≡ all
  unfolding packages_at
  goes-on p lt is =
      let k : count - i ≡ suc (count - (i + 1)) = omega arith in
      let one : with_front front (packages_at (count - i) bytes place)
      ≡ with_front (front ++ p ∷ []) (packages_at (count - (i + 1)) bytes (end_of p)) =
      rw (k, is) (regroup front p (packages_at (count - (i + 1)) bytes (end_of p))) in
      sym one ∙ so-far

  -- a package that isn't there
  pub stops : (e : VehicleError) → i < count → block_at bytes package_limit place ≡ Err e → all ≡ Err e
  unfolding packages_at
  stops e lt is =
      let k : count - i ≡ suc (count - (i + 1)) = omega arith in
      let one : with_front front (packages_at (count - i) bytes place) ≡ Err e = rw (k, is) refl in
      sym so-far ∙ one

  -- behind the last one
  pub is-done : count ≤ i → all ≡ Ok (front, place)
  unfolding packages_at
  is-done le =
      let k : count - i ≡ 0 = omega arith in
      let one : with_front front (packages_at (count - i) bytes place) ≡ Ok (front, place) =
      rw k (ap (λ (ps : List Span). Ok (ps, place)) (append-nil front)) in
      sym so-far ∙ one

-- the packages that were read before, and those that still are
abbrev pub with_read : List PackedOf → Result (List PackedOf) VehicleError → Result (List PackedOf) VehicleError
with_read front read = read >>= λ ps. Ok (front ++ ps)

regroup-read : (front : List PackedOf) (p : PackedOf) (read : Result (List PackedOf) VehicleError)
    → with_read front (read >>= λ ps. Ok (p ∷ ps)) ≡ with_read (front ++ p ∷ []) read
regroup-read front p (Ok ps) = ap (λ (qs : List PackedOf). Ok qs) (simp append_assoc)
regroup-read front p (Err e) = refl

module _ (front : List PackedOf) (f : Span → Bytes) (spans : List Span) (i : ℕ)
    (all : Result (List PackedOf) VehicleError)
    (so-far : with_read front (packages_in i (map f (drop i spans))) ≡ all) where
  -- one package more
  pub reads-on : (d : Span) (p : PackedOf) → i < length spans → package_in i (f (get_or spans i d)) ≡ Ok p
      → with_read (front ++ p ∷ []) (packages_in (i + 1) (map f (drop (i + 1) spans))) ≡ all
  reads-on d p lt is =
      let at : drop i spans ≡ get_or spans i d ∷ drop (i + 1) spans =
      drop-cons spans i d lt ∙ ap (λ n. get_or spans i d ∷ drop n spans) (sym (add-one i)) in
      let one : with_read front (packages_in i (map f (drop i spans)))
      ≡ with_read (front ++ p ∷ []) (packages_in (i + 1) (map f (drop (i + 1) spans))) =
      rw (at, is) (regroup-read front p (packages_in (i + 1) (map f (drop (i + 1) spans)))) in
      sym one ∙ so-far

  -- bytes that are no package
  pub refuses : (d : Span) (e : VehicleError) → i < length spans → package_in i (f (get_or spans i d)) ≡ Err e
      → all ≡ Err e
  refuses d e lt is =
      let at : drop i spans ≡ get_or spans i d ∷ drop (i + 1) spans =
      drop-cons spans i d lt ∙ ap (λ n. get_or spans i d ∷ drop n spans) (sym (add-one i)) in
      let one : with_read front (packages_in i (map f (drop i spans))) ≡ Err e = rw (at, is) refl in
      sym so-far ∙ one
