-- What is read is a package.
use Rattle.std.proofs.Common.{◌≡◌, ℕ, zero, suc, ◌+◌, ◌-◌, ◌<◌, ◌≤◌, ◌^◌, Bool, true, false, cond, not, ◌&&◌, ◌||◌, nat_lt, nat_le, List, [], ◌∷◌, ◌++◌, length, take, drop, get_or, map, Option, Some, None, option_map, option_and_then, Result, Ok, Err, refl, sym, ◌∙◌, ap, subst, arith, append_assoc, inl, inr, take-append-drop}
use Rattle.std.specs.Prelude.{◌==◌, find, ok_or, sum_by}
use Rattle.std.specs.List.{AllByRecursion, flat_map}
use Rattle.std.specs.Option.{option_map_or}
use Rattle.std.specs.Str.{bytes_eq}
use Rattle.std.proofs.lemmas.Bool.{and_from, and_parts, cases_lt, le-leb, leb-true, ne_eqb, ltb-false, ltb-true, not-false}
use Rattle.std.proofs.Math.Seq.{take-suc}
use Rattle.std.proofs.lemmas.List.{append_cancel_right, get_or_past, length-append, length-drop, length-take, nil_from_length, take_all}
use Rattle.std.proofs.lemmas.List.Concat.{flat_map-cons}
use Rattle.std.proofs.lemmas.List.Sums.{sum_by-cons}
use Rattle.std.proofs.lemmas.Simd.{map-map}
use Rattle.std.proofs.lemmas.Slice.Eq.{bytes_eq-Decides}
use Rattle.sha2.specs.Sha256.{sha256}
use Rattle.wire.specs.Fields.{bytes_field}
use Rattle.manifest.specs.Form.{manifest_of}
use Rattle.manifest.specs.Trees.{all_of}
use Rattle.ucm_base.specs.Limits.{part_limit}
use Rattle.ucm_base.specs.Names.{all_differ}
use Rattle.ucm_base.specs.Parts.{Bytes, cluster_of}
use Rattle.ucm_base.specs.declared.parts.Action.TheVariants.{Remove}
use Rattle.ucm_base.specs.declared.parts.Manifest.{Manifest}
use Rattle.ucm_base.specs.declared.parts.Part.{Part}
use Rattle.package_reader.specs.Fields.{LiesWithin, bytes_of, end_at, end_of, fields_of, has_digest_at, head_of, mark_of_more, mark_of_one, number_at, part_at, parts_at, text_at, block_at, texts_limit}
use Rattle.package_reader.specs.Reading.{are_parts, contents_of, has_its_payload, is_payload_of, is_remove, manifests_in, part_in, payloads_in, with_payload}
use Rattle.package_reader.specs.Spelling.{AreBytes, IsPackage, IsWritten, Written, fields, front}
use Rattle.package_reader.specs.declared.fault.PackageError.{PackageError}
use Rattle.package_reader.specs.declared.fault.PackageError.TheVariants.{PackageInconsistent}
use Rattle.package_reader.specs.declared.fields.Head.{Head}
use Rattle.package_reader.specs.declared.span.PartPlace.{PartPlace}
use Rattle.package_reader.specs.declared.span.Span.{Span}
use Rattle.package_reader.proofs.Blocks.{bind_ok, block_stands, guard_ok, ok_is, Stands, stands-spelled}

pub tells_of : (m : Manifest) (y : Bytes) → is_payload_of m y ≡ true
    → (sha256 y ≡ m.sha256) × (m.action ≡ Remove → y ≡ [])
tells_of m y e =
    let both = and_parts (bytes_eq (sha256 y) m.sha256) (not (is_remove m.action) || nat_lt (length y) 1) e in (
      (bytes_eq-Decides (sha256 y) m.sha256).0 both.0,
      λ removes.
          let here : nat_lt (length y) 1 ≡ true = rw removes at both.1 in
          nil_from_length y (omega (arith, ltb-true (length y) 1 here)),
    )

-- a value behind a step that has one
pub map_some : {A B : Type 0} (f : A → B) (o : Option A) (y : B) → option_map f o ≡ Some y
    → (x : A) × (o ≡ Some x) × (f x ≡ y)
map_some f None y e = absurd cc
map_some f (Some x) y e = (x, refl, cc)

pub then_some : {A B : Type 0} (f : A → Option B) (o : Option A) (y : B) → option_and_then f o ≡ Some y
    → (x : A) × (o ≡ Some x) × (f x ≡ Some y)
then_some f None y e = absurd cc
then_some f (Some x) y e = (x, refl, e)

pub ok_some : {A : Type 0} (o : Option A) (d : PackageError) (y : A) → ok_or o d ≡ Ok y → o ≡ Some y
ok_some None d y e = absurd cc
ok_some (Some x) d y e = ap (λ z. Some z) (ok_is x y e)

pub cond_ok : {A : Type 0} (b : Bool) (d : PackageError) (x y : A) → cond b (Ok x) (Err d) ≡ Ok y → (b ≡ true) × (x ≡ y)
cond_ok true d x y e = (refl, ok_is x y e)
cond_ok false d x y e = absurd cc

-- nothing that was looked for was found
pub none_by : {A : Type 0} (f : A → PackageError) (o : Option A) (u : Unit {0})
    → option_map_or (λ a. Err (f a)) o (Ok (tt {0})) ≡ Ok u → o ≡ None
none_by f None u e = refl
none_by f (Some a) u e = absurd cc

pub find_none : {A : Type 0} (b : Bool) (x : A) (more : Option A) → cond b (Some x) more ≡ None
    → (b ≡ false) × (more ≡ None)
find_none true x more e = absurd cc
find_none false x more e = (refl, e)

-- as many parts as were counted, whose payloads lie in the bytes
pub walks : (n : ℕ) (bytes : Bytes) (room place : ℕ) (ps : List PartPlace) (end : ℕ)
    → parts_at n bytes room place ≡ Ok (ps, end) → (length ps ≡ n) × AllByRecursion (λ p. LiesWithin bytes p.payload) ps
unfolding part_at parts_at
walks zero bytes room place ps end e =
    subst (λ (x : List PartPlace × ℕ). (length x.0 ≡ zero)
    × AllByRecursion (λ p. LiesWithin bytes p.payload) x.0) (ok_is ([], place) (ps, end) e) (refl, tt)
walks (suc n) bytes room place ps end e =
    let a = bind_ok (part_at bytes room place) _ (ps, end) e in
    let text = bind_ok (text_at bytes room place) _ a.0 a.1 in
    let payload = bind_ok (block_at bytes (end_of text.0)) _ a.0 text.2 in
    let within = subst (λ (p : PartPlace). LiesWithin bytes p.payload)
    (ok_is (record { text = text.0; payload = payload.0 }) a.0 payload.2)
    (block_stands bytes (end_of text.0) payload.0 payload.1).within in
    let b = bind_ok (parts_at n bytes (room - a.0.text.len) (end_of a.0.payload)) _ (ps, end) a.2 in
    let more = walks n bytes _ _ b.0.0 b.0.1 b.1 in
    subst (λ (x : List PartPlace × ℕ). (length x.0 ≡ suc n)
    × AllByRecursion (λ p. LiesWithin bytes p.payload) x.0) (ok_is (a.0 ∷ b.0.0, b.0.1) (ps, end) b.2)
    (ap suc more.0, (within, more.1))

-- as many parts as texts, whose payloads lie where they lay
pub follows : (bytes : Bytes) (ps : List PartPlace) (cs : List (Part Span)) → all_of (part_in bytes) ps ≡ Some cs
    → AllByRecursion (λ p. LiesWithin bytes p.payload) ps
    → (length cs ≡ length ps) × AllByRecursion (λ c. LiesWithin bytes c.payload) cs
follows bytes [] [] e within = (refl, tt)
follows bytes [] (c ∷ cs) e within = absurd cc
follows bytes (p ∷ ps) cs e within =
    let a = then_some (λ c. option_map (λ more. c ∷ more) (all_of (part_in bytes) ps)) (part_in bytes p) cs e in
    let b = map_some (λ more. a.0 ∷ more) (all_of (part_in bytes) ps) cs a.2 in
    let m = map_some (λ (m : Manifest). record { manifest = m; payload = p.payload })
    (manifest_of (bytes_of bytes p.text)) a.0 a.1 in
    let more = follows bytes ps b.0 b.1 within.1 in
    subst (λ (ds : List (Part Span)). (length ds ≡ suc (length ps))
    × AllByRecursion (λ c. LiesWithin bytes c.payload) ds) b.2
    (ap suc more.0, (subst (λ (c : Part Span). LiesWithin bytes c.payload) m.2 within.0, more.1))

module _ (bytes : Bytes) (bytes-are : AreBytes bytes) where
  -- the fields that lie at a place
  abbrev lying : PartPlace → List ℕ
  lying p = bytes_field (bytes_of bytes p.text) ++ bytes_field (bytes_of bytes p.payload)

  record Takes (n room place : ℕ) (ps : List PartPlace) (end : ℕ) : Type 0 where
    parts : drop place bytes ≡ flat_map lying ps ++ drop end bytes
    within : end ≤ length bytes
    texts : sum_by (λ p. length (bytes_of bytes p.text)) ps ≤ room
    small : AllByRecursion (λ p. length (bytes_of bytes p.payload) < 2 ^ 32) ps

  record TakesOne (room place : ℕ) (p : PartPlace) : Type 0 where
    parts : drop place bytes ≡ lying p ++ drop (end_of p.payload) bytes
    within : end_of p.payload ≤ length bytes
    size : length (bytes_of bytes p.text) ≡ p.text.len
    text : p.text.len ≤ room
    small : length (bytes_of bytes p.payload) < 2 ^ 32

  part-taken : (room place : ℕ) (p : PartPlace) → part_at bytes room place ≡ Ok p → TakesOne room place p
  unfolding part_at
  part-taken room place p e =
      let a = bind_ok (text_at bytes room place) _ p e in
      let b = bind_ok (block_at bytes (end_of a.0)) _ p a.2 in
      let g = guard_ok (nat_lt room (number_at bytes place)) _ _ a.0 a.1 in
      let text = block_stands bytes place a.0 g.1 in
      let payload = block_stands bytes (end_of a.0) b.0 b.1 in
      let t = stands-spelled bytes place a.0 bytes-are text in
      let y = stands-spelled bytes (end_of a.0) b.0 bytes-are payload in
      subst (TakesOne room place) (ok_is (record { text = a.0; payload = b.0 }) p b.2) (record {
        parts = t.parts ∙ ap (λ xs. bytes_field (bytes_of bytes a.0) ++ xs) y.parts
            ∙ sym (append_assoc (bytes_field (bytes_of bytes a.0)) (bytes_field (bytes_of bytes b.0))
            (drop (end_of b.0) bytes));
        within = payload.within;
        size = t.size;
        text = omega (arith, ltb-false _ _ g.0, text.number);
        small = omega (arith, y.size, y.small);
      })

  taken : (n room place : ℕ) (ps : List PartPlace) (end : ℕ) → place ≤ length bytes
      → parts_at n bytes room place ≡ Ok (ps, end) → Takes n room place ps end
  unfolding parts_at
  taken zero room place ps end within e =
      subst (λ (x : List PartPlace × ℕ). Takes zero room place x.0 x.1) (ok_is ([], place) (ps, end) e)
      (record { parts = refl; within = within; texts = omega arith; small = tt })
  taken (suc n) room place ps end within e =
      let a = bind_ok (part_at bytes room place) _ (ps, end) e in
      let p = a.0 in
      let b = bind_ok (parts_at n bytes (room - p.text.len) (end_of p.payload)) _ (ps, end) a.2 in
      let one = part-taken room place p a.1 in
      let more = taken n (room - p.text.len) (end_of p.payload) b.0.0 b.0.1 one.within b.1 in
      let sum = sum_by-cons (λ (q : PartPlace). length (bytes_of bytes q.text)) p b.0.0 in
      subst (λ (x : List PartPlace × ℕ). Takes (suc n) room place x.0 x.1) (ok_is (p ∷ b.0.0, b.0.1) (ps, end) b.2)
      (record {
        parts = one.parts ∙ ap (λ xs. lying p ++ xs) more.parts
            ∙ sym (append_assoc (lying p) (flat_map lying b.0.0) (drop b.0.1 bytes))
            ∙ ap (λ xs. xs ++ drop b.0.1 bytes) (sym (flat_map-cons lying p b.0.0));
        within = more.within;
        texts = omega (arith, sum, more.texts, one.size, one.text);
        small = (one.small, more.small);
      })

  -- the parts with their texts, as they lie
  record Finds (ps : List PartPlace) (cs : List (Part Span)) (ws : List Written) : Type 0 where
    fields-are : flat_map fields ws ≡ flat_map lying ps
    are : map (with_payload bytes) cs ≡ map (λ w. w.part) ws
    texts : sum_by (λ w. length w.text) ws ≡ sum_by (λ p. length (bytes_of bytes p.text)) ps
    count : length ws ≡ length ps
    each : AllByRecursion IsWritten ws

  finds : (ps : List PartPlace) (cs : List (Part Span))
      → AllByRecursion (λ p. length (bytes_of bytes p.payload) < 2 ^ 32) ps → all_of (part_in bytes) ps ≡ Some cs
      → find (λ c. not (has_its_payload bytes c)) cs ≡ None
      → (ws : List Written) × Finds ps cs ws
  finds [] [] small e none = ([], record { fields-are = refl; are = refl; texts = refl; count = refl; each = tt })
  finds [] (c ∷ cs) small e none = absurd cc
  finds (p ∷ ps) cs small e none =
      let a = then_some (λ c. option_map (λ more. c ∷ more) (all_of (part_in bytes) ps)) (part_in bytes p) cs e in
      let b = map_some (λ more. a.0 ∷ more) (all_of (part_in bytes) ps) cs a.2 in
      let m = map_some (λ (m : Manifest). record { manifest = m; payload = p.payload })
      (manifest_of (bytes_of bytes p.text)) a.0 a.1 in
      let none-of : find (λ c. not (has_its_payload bytes c)) (a.0 ∷ b.0) ≡ None =
      ap (find (λ c. not (has_its_payload bytes c))) b.2 ∙ none in
      let parts = find_none (not (has_its_payload bytes a.0)) a.0
      (find (λ c. not (has_its_payload bytes c)) b.0) none-of in
      let more = finds ps b.0 small.1 b.1 parts.1 in
      let w : Written = record { text = bytes_of bytes p.text; part = with_payload bytes a.0 } in
      let payload : bytes_of bytes a.0.payload ≡ bytes_of bytes p.payload =
      ap (λ (c : Part Span). bytes_of bytes c.payload) (sym m.2) in
      let told = tells_of a.0.manifest (bytes_of bytes a.0.payload) (not-false _ parts.0) in
      let written : IsWritten w = record {
        manifest = m.1 ∙ ap (λ (c : Part Span). Some c.manifest) m.2;
        fits = rw payload small.0;
        digest = told.0;
        removal = told.1;
      } in
      subst (λ (ds : List (Part Span)). (ws : List Written) × Finds (p ∷ ps) ds ws) b.2 (
        w ∷ more.0,
        record {
          fields-are = flat_map-cons fields w more.0
              ∙ (λ i. (bytes_field w.text ++ bytes_field (payload i)) ++ more.1.fields-are i)
              ∙ sym (flat_map-cons lying p ps);
          are = ap (λ rest. with_payload bytes a.0 ∷ rest) more.1.are;
          texts = sum_by-cons (λ (v : Written). length v.text) w more.0 ∙ ap (λ n. length w.text + n) more.1.texts
              ∙ sym (sum_by-cons (λ (q : PartPlace). length (bytes_of bytes q.text)) p ps);
          count = ap suc more.1.count;
          each = (written, more.1.each);
        },
      )

record Heads (bytes : Bytes) (h : Head) : Type 0 where
  start : take h.place bytes ≡ front h.count
  within : h.place ≤ length bytes
  some : 1 ≤ h.count
  few : h.count ≤ part_limit

head_chosen : (one more counted : Bool) (h1 h2 h : Head) (d1 d2 : PackageError)
    → cond one (Ok h1) (cond (not more) (Err d1) (cond counted (Ok h2) (Err d2))) ≡ Ok h
    → (P : Head → Type 0) → (one ≡ true → P h1) → (more ≡ true → counted ≡ true → P h2) → P h
head_chosen true more counted h1 h2 h d1 d2 e P p q = subst P (ok_is h1 h e) (p refl)
head_chosen false true true h1 h2 h d1 d2 e P p q = subst P (ok_is h2 h e) (q refl refl)
head_chosen false true false h1 h2 h d1 d2 e P p q = absurd cc
head_chosen false false counted h1 h2 h d1 d2 e P p q = absurd cc

four-within : (bytes : Bytes) (mark : List ℕ) → length mark ≡ 4 → mark ≡ take 4 bytes → 4 ≤ length bytes
four-within bytes mark size e = omega (arith, size, ap length e, length-take 4 bytes)

head-taken : (bytes : Bytes) (h : Head) → head_of bytes ≡ Ok h → Heads bytes h
head-taken bytes h e =
    let n = get_or bytes 4 0 in
    head_chosen (bytes_eq mark_of_one (take 4 bytes)) (bytes_eq mark_of_more (take 4 bytes)) (nat_le 2 n
    && nat_le n part_limit) _ _ h _ _ e (Heads bytes)
    (λ one.
    let marked = (bytes_eq-Decides mark_of_one (take 4 bytes)).0 one in
    record {
      start = sym marked;
      within = four-within bytes mark_of_one refl marked;
      some = omega arith;
      few =
          omega arith;
    })
    (λ more counted.
    let marked = (bytes_eq-Decides mark_of_more (take 4 bytes)).0 more in
    let both = and_parts (nat_le 2 n) (nat_le n part_limit) counted in
    let two = leb-true 2 n both.0 in
    let long : 4 < length bytes = elim (cases_lt 4 (length bytes)) [
      | inl lt ↦ lt
      | inr le ↦ absurd (omega (arith, two, get_or_past bytes 4 0 le))
    ] in
    let several : (n == 1) ≡ false = ne_eqb n 1 (λ one. omega (arith, two, one)) in
    record {
      start = take-suc bytes 4 0 long ∙ (λ i. sym marked i ++ n ∷ []) ∙ rw several refl;
      within =
          omega (arith, long);
      some = omega (arith, two);
      few = leb-true n part_limit both.1;
    })

-- the digest ends the bytes
ended : (bytes : Bytes) (place : ℕ) (u : Unit {0}) → end_at bytes place ≡ Ok u
    → drop place bytes ≡ sha256 (take place bytes)
ended bytes place u e =
    let a = guard_ok (not (has_digest_at bytes place)) _ _ _ e in
    let b = guard_ok (nat_lt (place + 32) (length bytes)) _ _ _ a.1 in
    let digest = (bytes_eq-Decides (sha256 (take place bytes)) (take 32 (drop place bytes))).0 (not-false _ a.0) in
    sym (take_all 32 (drop place bytes) (omega (arith, length-drop place bytes, ltb-false _ _ b.0))) ∙ sym digest

-- what was read of a package, step by step
record Steps (bytes : Bytes) (cs : List (Part Span)) : Type 0 where
  head : Head
  places : List PartPlace
  end : ℕ
  head-is : Heads bytes head
  walked : parts_at head.count bytes (texts_limit head.count) head.place ≡ Ok (places, end)
  ended-by : drop end bytes ≡ sha256 (take end bytes)
  texts : all_of (part_in bytes) places ≡ Some cs
  differ : all_differ (map cluster_of cs) ≡ true
  payloads : find (λ c. not (has_its_payload bytes c)) cs ≡ None

steps : (bytes : Bytes) (cs : List (Part Span)) → contents_of bytes ≡ Ok cs → Steps bytes cs
unfolding fields_of contents_of
steps bytes cs e =
    let a = bind_ok (fields_of bytes) _ cs e in
    let h = bind_ok (head_of bytes) _ a.0 a.1 in
    let w = bind_ok (parts_at h.0.count bytes (texts_limit h.0.count) h.0.place) _ a.0 h.2 in
    let d = bind_ok (end_at bytes w.0.1) _ a.0 w.2 in
    let b = bind_ok (manifests_in bytes a.0) _ cs a.2 in
    let y = bind_ok (payloads_in bytes b.0) _ cs b.2 in
    let n = bind_ok (ok_or (all_of (part_in bytes) a.0) _) _ b.0 b.1 in
    let given = cond_ok (all_differ (map cluster_of n.0)) _ n.0 b.0 n.2 in
    let last : b.0 ≡ cs = ok_is b.0 cs y.2 in
    let same : n.0 ≡ cs = given.1 ∙ last in
    record {
      head = h.0;
      places = w.0.0;
      end = w.0.1;
      head-is = head-taken bytes h.0 h.1;
      walked = w.1;
      ended-by = ended bytes w.0.1 d.0 d.1;
      texts = ap (all_of (part_in bytes)) (ok_is w.0.0 a.0 d.2) ∙ ok_some _ _ n.0 n.1 ∙ ap (λ z. Some z) same;
      differ = ap (λ ds. all_differ (map cluster_of ds)) (sym same) ∙ given.0;
      payloads = none_by (λ part. PackageInconsistent part.payload.at)
          (find (λ c. not (has_its_payload bytes c)) cs) y.0
          (subst (λ (ds : List (Part Span)). payloads_in bytes ds ≡ Ok y.0) last y.1);
    }

counted : (bytes : Bytes) (cs : List (Part Span)) (s : Steps bytes cs)
    → (length cs ≡ s.head.count) × AllByRecursion (λ c. LiesWithin bytes c.payload) cs
counted bytes cs s =
    let walked = walks s.head.count bytes _ _ s.places s.end s.walked in
    let all = follows bytes s.places cs s.texts walked.1 in
    (all.0 ∙ walked.0, all.1)

-- the payloads lie in the bytes
pub contents_lie_within : (bytes : Bytes) (cs : List (Part Span)) → contents_of bytes ≡ Ok cs
    → AllByRecursion (λ c. LiesWithin bytes c.payload) cs
contents_lie_within bytes cs e = (counted bytes cs (steps bytes cs e)).1

-- one to sixteen parts of different clusters are read
pub contents_are_parts : (bytes : Bytes) (cs : List (Part Span)) → contents_of bytes ≡ Ok cs → are_parts cs ≡ true
contents_are_parts bytes cs e =
    let s = steps bytes cs e in
    let many : length cs ≡ s.head.count = (counted bytes cs s).0 in
    and_from _ _ (and_from _ _ (le-leb 1 (length cs) (omega (arith, many, s.head-is.some)))
    (le-leb (length cs) part_limit (omega (arith, many, s.head-is.few)))) s.differ

-- what is read is a package
pub contents_are_package : (bytes : Bytes) (cs : List (Part Span)) → AreBytes bytes → contents_of bytes ≡ Ok cs
    → IsPackage bytes (map (with_payload bytes) cs)
contents_are_package bytes cs are e =
    let s = steps bytes cs e in
    let n = s.head.count in
    let t = taken bytes are n (texts_limit n) s.head.place s.places s.end s.head-is.within s.walked in
    let found = finds bytes are s.places cs t.small s.texts s.payloads in
    let ws = found.0 in
    let body = front n ++ flat_map fields ws in
    let rest = drop s.end bytes in
    let parts : bytes ≡ body ++ rest =
    sym (take-append-drop s.head.place bytes)
    ∙ (λ i. s.head-is.start i ++ (t.parts ∙ ap (λ xs. xs ++ rest) (sym found.1.fields-are)) i)
    ∙ sym (append_assoc (front n) (flat_map fields ws) rest) in
    let before : take s.end bytes ≡ body =
    append_cancel_right (take s.end bytes) body rest (take-append-drop s.end bytes ∙ parts) in
    let count : length ws ≡ n = found.1.count ∙ (walks n bytes _ _ s.places s.end s.walked).0 in
    record {
      written = ws;
      are = found.1.are;
      some = omega (arith, count, s.head-is.some);
      few = omega (arith, count, s.head-is.few);
      differ = ap all_differ (map-map cluster_of (with_payload bytes) cs) ∙ s.differ;
      spelled = parts ∙ (λ i. body ++ (s.ended-by ∙ ap sha256 before) i)
          ∙ ap (λ k. (front k ++ flat_map fields ws) ++ sha256 (front k ++ flat_map fields ws)) (sym count);
      texts = omega (arith, found.1.texts, t.texts, ap texts_limit count);
      each = found.1.each;
    }
