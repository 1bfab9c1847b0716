-- Each package is read.
use Rattle.std.proofs.Common.{◌≡◌, ℕ, suc, ◌+◌, ◌-◌, ◌<◌, ◌≤◌, ◌^◌, Bool, true, false, not, ◌||◌, nat_lt, nat_le, List, [], ◌∷◌, ◌++◌, length, take, drop, map, Option, Some, None, Result, Ok, Err, refl, sym, ◌∙◌, ap, subst, arith, add-zero, append_assoc, inl, inr}
use Rattle.std.specs.Prelude.{◌==◌, find, sum_by}
use Rattle.std.specs.List.{AllByRecursion, flat_map}
use Rattle.std.specs.Str.{bytes_eq}
use Rattle.std.proofs.lemmas.Bool.{cases_Bool, eqb-false, eqb-true, le-leb, le-ltb, and_from, not_from_false, not_from_true, or_left, or_right}
use Rattle.std.proofs.lemmas.List.{drop_at, length-append, take_all, take_at}
use Rattle.std.proofs.lemmas.List.Concat.{flat_map-cons}
use Rattle.std.proofs.lemmas.List.Sums.{sum_by-cons}
use Rattle.std.proofs.lemmas.Simd.{map-map}
use Rattle.std.proofs.lemmas.Slice.Eq.{bytes_eq-Decides}
use Rattle.sha2.specs.Sha256.{sha256}
use Rattle.sha2.proofs.Facts256.{length-sha256}
use Rattle.wire.specs.Fields.{bytes_field}
use Rattle.manifest.specs.Trees.{all_of}
use Rattle.ucm_base.specs.Limits.{part_limit}
use Rattle.ucm_base.specs.Names.{all_differ}
use Rattle.ucm_base.specs.Parts.{Bytes, cluster_of}
use Rattle.ucm_base.specs.declared.parts.Action.{Action}
use Rattle.ucm_base.specs.declared.parts.Action.TheVariants.{Install, Update, Remove}
use Rattle.ucm_base.specs.declared.parts.Manifest.{Manifest}
use Rattle.ucm_base.specs.declared.parts.Part.{Part}
use Rattle.package_reader.specs.Fields.{bytes_of, end_at, end_of, fields_of, head_of, part_at, parts_at, texts_limit}
use Rattle.package_reader.specs.Reading.{contents_of, has_its_payload, is_payload_of, is_remove, part_in, reading, with_payload}
use Rattle.package_reader.specs.Spelling.{IsPackage, IsWritten, Written, fields, front, spelling}
use Rattle.package_reader.specs.declared.fields.Head.{Head}
use Rattle.package_reader.specs.declared.span.PartPlace.{PartPlace}
use Rattle.package_reader.specs.declared.span.Span.{Span}
use Rattle.package_reader.proofs.Blocks.{spelled_block}

remove_is : (a : Action) → is_remove a ≡ true → a ≡ Remove
remove_is Remove e = refl
remove_is Install e = absurd cc
remove_is Update e = absurd cc

belongs : (m : Manifest) (y : Bytes) → sha256 y ≡ m.sha256 → (m.action ≡ Remove → y ≡ []) → is_payload_of m y ≡ true
belongs m y digest removal =
    and_from _ _ ((bytes_eq-Decides (sha256 y) m.sha256).1 digest) (elim (cases_Bool (is_remove m.action)) [
      | inl t ↦ or_right (not (is_remove m.action)) _ (rw (removal (remove_is m.action t)) refl)
      | inr t ↦ or_left _ _ (not_from_false _ t)
    ])

-- where a part lies behind a place
abbrev place_of : ℕ → Written → PartPlace
place_of place w = record {
  text = record { at = place + 4; len = length w.text };
  payload = record { at = place + 4 + length w.text + 4; len = length w.part.payload };
}

module _ (bytes : Bytes) where
  -- the parts lie at these places
  abbrev Lie : List PartPlace → List Written → Type 0
  Lie [] [] = Unit {0}
  Lie [] (w ∷ ws) = ⊥
  Lie (p ∷ ps) [] = ⊥
  Lie (p ∷ ps) (w ∷ ws) = (bytes_of bytes p.text ≡ w.text) × (bytes_of bytes p.payload ≡ w.part.payload) × Lie ps ws

  part-again : (w : Written) (start rest : List ℕ) (room place : ℕ) → bytes ≡ start ++ (fields w ++ rest)
      → length start ≡ place → length w.text ≤ room → room < 2 ^ 32 → length w.part.payload < 2 ^ 32
      → (part_at bytes room place ≡ Ok (place_of place w)) × (bytes_of bytes (place_of place w).text ≡ w.text)
      × (bytes_of bytes (place_of place w).payload ≡ w.part.payload)
  unfolding part_at
  part-again w start rest room place e len short few small =
      let y = bytes_field w.part.payload in
      let text = spelled_block bytes start w.text (y ++ rest) place (e
      ∙ ap (λ xs. start ++ xs) (append_assoc (bytes_field w.text) y rest)) len (omega (arith, short, few)) in
      let behind : length (start ++ bytes_field w.text) ≡ place + 4 + length w.text =
      omega (arith, len, length-append start (bytes_field w.text)) in
      let regrouped = ap (λ xs. start ++ xs) (append_assoc (bytes_field w.text) y rest)
      ∙ sym (append_assoc start (bytes_field w.text) (y ++ rest)) in
      let payload =
      spelled_block bytes (start ++ bytes_field w.text) w.part.payload rest (place + 4 + length w.text) (e
      ∙ regrouped) behind small in
      (rw (text.0, le-ltb room (length w.text) short, text.1, payload.1) refl, text.2, payload.2)

  again : (ws : List Written) (start rest : List ℕ) (room place : ℕ) → bytes ≡ start ++ (flat_map fields ws ++ rest)
      → length start ≡ place → AllByRecursion IsWritten ws → sum_by (λ w. length w.text) ws ≤ room → room < 2 ^ 32
      → (ps : List PartPlace) × (parts_at (length ws) bytes room place ≡ Ok (ps, place + length (flat_map fields ws)))
      × Lie ps ws
  unfolding parts_at
  again [] start rest room place e len each short few = ([], rw add-zero refl, tt)
  again (w ∷ ws) start rest room place e len each short few =
      let sum = sum_by-cons (λ (v : Written). length v.text) w ws in
      let here : flat_map fields (w ∷ ws) ≡ fields w ++ flat_map fields ws = flat_map-cons fields w ws in
      let split : bytes ≡ start ++ (fields w ++ (flat_map fields ws ++ rest)) =
      e ∙ ap (λ xs. start ++ (xs ++ rest)) here
      ∙ ap (λ xs. start ++ xs) (append_assoc (fields w) (flat_map fields ws) rest) in
      let one = part-again w start (flat_map fields ws ++ rest) room place split len
      (omega (arith, sum, short)) few each.0.fits in
      let size : length (fields w) ≡ 4 + length w.text + (4 + length w.part.payload) =
      omega (arith, length-append (bytes_field w.text) (bytes_field w.part.payload)) in
      let end = end_of (place_of place w).payload in
      let more = again ws (start ++ fields w) rest (room - length w.text) end (split
      ∙ sym (append_assoc start (fields w) (flat_map fields ws ++ rest)))
      (omega (arith, len, size, length-append start (fields w))) each.1 (omega (arith, sum, short))
      (omega (arith, few)) in
      let all : end + length (flat_map fields ws) ≡ place + length (flat_map fields (w ∷ ws)) =
      omega (arith, size, ap length here, length-append (fields w) (flat_map fields ws)) in
      (place_of place w ∷ more.0, rw (one.0, more.1, all) refl, (one.1, one.2, more.2))

  read-again : (ps : List PartPlace) (ws : List Written) → Lie ps ws → AllByRecursion IsWritten ws
      → (cs : List (Part Span)) × (all_of (part_in bytes) ps ≡ Some cs)
      × (map (with_payload bytes) cs ≡ map (λ w. w.part) ws) × (find (λ c. not (has_its_payload bytes c)) cs ≡ None)
  read-again [] [] lie each = ([], refl, refl, refl)
  read-again [] (w ∷ ws) lie each = absurd lie
  read-again (p ∷ ps) [] lie each = absurd lie
  read-again (p ∷ ps) (w ∷ ws) lie each =
      let more = read-again ps ws lie.2 each.1 in
      let c : Part Span = record { manifest = w.part.manifest; payload = p.payload } in
      let belonging : has_its_payload bytes c ≡ true =
      rw lie.1 (belongs w.part.manifest w.part.payload each.0.digest each.0.removal) in (
        c ∷ more.0,
        rw (lie.0, each.0.manifest, more.1) refl,
        (λ i. record { manifest = w.part.manifest; payload = lie.1 i } ∷ more.2 i),
        rw belonging more.3,
      )

texts-few : (n : ℕ) → texts_limit n < 2 ^ 32
texts-few n = elim (cases_Bool (n == 1)) [ inl t ↦ rw t (omega arith) | inr t ↦ rw t (omega arith) ]

head-by : (n : ℕ) (rest : List ℕ) (one : Bool) → (n == 1) ≡ one → 1 ≤ n → n ≤ part_limit
    → head_of (front n ++ rest) ≡ Ok (record { count = n; place = length (front n) })
head-by n rest true e some few = rw (eqb-true n 1 e) refl
head-by n rest false e some few =
    let two : nat_le 2 n ≡ true = le-leb 2 n (omega (arith, some, eqb-false n 1 e)) in
    let most : nat_le n part_limit ≡ true = le-leb n part_limit few in
    rw (e, two, most) refl

-- each package is read
pub package_is_read : (bytes : Bytes) (parts : List (Part Bytes)) → IsPackage bytes parts → reading bytes ≡ Ok parts
unfolding fields_of contents_of reading
package_is_read bytes parts is =
    let ws = is.written in
    let n = length ws in
    let inner = flat_map fields ws in
    let body = front n ++ inner in
    let split : bytes ≡ front n ++ (inner ++ sha256 body) = is.spelled ∙ append_assoc (front n) inner (sha256 body) in
    let head = ap head_of split ∙ head-by n (inner ++ sha256 body) (n == 1) refl is.some is.few in
    let walked = again bytes ws (front n) (sha256 body) (texts_limit n) (length (front n)) split refl is.each is.texts
    (texts-few n) in
    let end = length (front n) + length inner in
    let len : length body ≡ end = length-append (front n) inner in
    let before : take end bytes ≡ body = ap (take end) is.spelled ∙ take_at body (sha256 body) end len in
    let digest : take 32 (drop end bytes) ≡ sha256 body =
    ap (λ xs. take 32 (drop end xs)) is.spelled ∙ ap (take 32) (drop_at body (sha256 body) end len)
    ∙ take_all 32 (sha256 body) (omega (arith, length-sha256 body)) in
    let same = (bytes_eq-Decides (sha256 (take end bytes)) (take 32 (drop end bytes))).1 (ap sha256 before
    ∙ sym digest) in
    let last =
    le-ltb (end + 32) (length bytes) (omega (
      arith,
      ap length is.spelled,
      length-append body (sha256 body),
      length-sha256 body,
      len,
    )) in
    let found = read-again bytes walked.0 ws walked.2 is.each in
    let names : map cluster_of found.0 ≡ map cluster_of parts =
    sym (map-map cluster_of (with_payload bytes) found.0) ∙ ap (map cluster_of) (found.2 ∙ sym is.are) in
    let differ : all_differ (map cluster_of found.0) ≡ true = ap all_differ names ∙ is.differ in
    rw (head, walked.1, same, last, found.1, differ, found.3, found.2, ← is.are) refl
