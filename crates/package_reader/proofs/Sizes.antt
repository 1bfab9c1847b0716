-- How many bytes a package has, and that it is one.
use Rattle.std.proofs.Common.{◌≡◌, ℕ, ◌+◌, ◌*◌, ◌≤◌, ◌<◌, Bool, true, false, ◌||◌, ◌&&◌, nat_le, nat_lt, List, [], ◌∷◌, ◌++◌, length, map, take, get_or, refl, sym, ◌∙◌, ap, subst, add-one, append-nil, arith}
use Rattle.std.specs.Prelude.{sum_by}
use Rattle.std.specs.List.{AllByRecursion, flat_map}
use Rattle.std.proofs.lemmas.Bool.{and_parts, le-ltb, leb-true, ltb-false, or_parts}
use Rattle.std.proofs.Math.Seq.{take-suc}
use Rattle.std.proofs.lemmas.List.{length-append, length-map, map-append, map-id}
use Rattle.std.proofs.lemmas.List.Concat.{flat_map-append, flat_map-cons}
use Rattle.std.proofs.lemmas.List.Sums.{sum_by-cons}
use Rattle.std.proofs.lemmas.Simd.{map-map}
use Rattle.sha2.specs.Sha256.{sha256}
use Rattle.sha2.proofs.Facts256.{length-sha256}
use Rattle.wire.specs.Fields.{bytes_field}
use Rattle.manifest.specs.Text.{manifest_text}
use Rattle.ucm_base.specs.Limits.{package_limit, part_limit}
use Rattle.ucm_base.specs.Names.{all_differ}
use Rattle.ucm_base.specs.Parts.{Bytes, cluster_of}
use Rattle.ucm_base.specs.declared.parts.Part.{Part}
use Rattle.package_reader.specs.Fields.{texts_limit}
use Rattle.package_reader.specs.Printing.{all_belong, canonical, is_too_large, package_text, payloads_size, texts_size}
use Rattle.package_reader.specs.Reading.{are_parts, belongs}
use Rattle.package_reader.specs.Spelling.{HasText, IsPackage, IsWritten, Written, fields, front}
use Rattle.package_reader.proofs.Taken.{tells_of}

fields-size : (parts : List (Part Bytes)) → length (flat_map fields (map canonical parts))
    ≡ 8 * length parts + texts_size parts + payloads_size parts
fields-size [] = refl
fields-size (part ∷ parts) =
    let w = canonical part in
    omega (
      arith,
      ap length (flat_map-cons fields w (map canonical parts)),
      length-append (fields w) (flat_map fields (map canonical parts)),
      length-append (bytes_field w.text) (bytes_field part.payload),
      sum_by-cons (λ (p : Part Bytes). length (manifest_text p.manifest)) part parts,
      sum_by-cons (λ (p : Part Bytes). length p.payload) part parts,
      fields-size parts,
    )

pub whole_size : (parts : List (Part Bytes))
    → length (package_text parts) ≡ length (front (length parts)) + 8 * length parts + texts_size parts
    + payloads_size parts + 32
unfolding package_text
whole_size parts =
    let body = front (length (map canonical parts)) ++ flat_map fields (map canonical parts) in
    omega (
      arith,
      length-append body (sha256 body),
      length-sha256 body,
      length-append (front (length (map canonical parts))) (flat_map fields (map canonical parts)),
      fields-size parts,
      ap (λ n. length (front n)) (length-map parts canonical),
    )

-- where the texts are within their limit, the whole decides
pub size-decides : (parts : List (Part Bytes)) (size : ℕ) → texts_size parts ≤ texts_limit (length parts)
    → size ≡ length (front (length parts)) + 8 * length parts + texts_size parts + payloads_size parts + 32
    → nat_lt package_limit size ≡ is_too_large parts
unfolding is_too_large
size-decides parts size short is =
    rw (le-ltb (texts_limit (length parts)) (texts_size parts) short)
    (ap (nat_lt package_limit) (is ∙ sym (whole_size parts)))

each-and : {X : Type 0} (P : X → Type 0) (xs : List X) (x : X) → AllByRecursion P xs → P x
    → AllByRecursion P (xs ++ x ∷ [])
each-and P [] x each one = (one, tt)
each-and P (y ∷ ys) x each one = (each.0, each-and P ys x each.1 one)

module _ (parts : List (Part Bytes)) (i : ℕ) (part : Part Bytes) (within : i < length parts) (at : part
    ≡ get_or parts i part) where
  taken-more : take (i + 1) parts ≡ take i parts ++ part ∷ []
  taken-more = ap (λ n. take n parts) (add-one i) ∙ take-suc parts i part within
      ∙ ap (λ p. take i parts ++ p ∷ []) (sym at)

  -- the fields of one part more
  pub fields-more : flat_map fields (map canonical (take (i + 1) parts))
      ≡ flat_map fields (map canonical (take i parts)) ++ fields (canonical part)
  fields-more =
      ap (λ ps. flat_map fields (map canonical ps)) taken-more
      ∙ ap (flat_map fields) (map-append canonical (take i parts) (part ∷ []))
      ∙ flat_map-append fields (map canonical (take i parts)) (canonical part ∷ [])
      ∙ ap (λ xs. flat_map fields (map canonical (take i parts)) ++ xs) (append-nil (fields (canonical part)))

  pub texts-more : AllByRecursion HasText (take i parts) → HasText part → AllByRecursion HasText (take (i + 1) parts)
  texts-more each one = subst (AllByRecursion HasText) (sym taken-more) (each-and HasText (take i parts) part each one)

texts-of : (parts : List (Part Bytes)) → sum_by (λ w. length w.text) (map canonical parts) ≡ texts_size parts
texts-of [] = refl
texts-of (part ∷ parts) = sum_by-cons (λ (w : Written). length w.text) (canonical part) (map canonical parts)
    ∙ ap (λ n. length (manifest_text part.manifest) + n) (texts-of parts)
    ∙ sym (sum_by-cons (λ (p : Part Bytes). length (manifest_text p.manifest)) part parts)

are-written : (parts : List (Part Bytes)) → AllByRecursion HasText parts → all_belong parts ≡ true
    → AllByRecursion IsWritten (map canonical parts)
are-written [] texts belong = tt
are-written (part ∷ parts) texts belong =
    let both = and_parts (belongs part) (all_belong parts) belong in
    let told = tells_of part.manifest part.payload both.0 in (
      record { manifest = texts.0.0; fits = texts.0.1; digest = told.0; removal = told.1 },
      are-written parts texts.1 both.1,
    )

-- parts that are printed are a package
pub is_package : (bytes : List ℕ) (parts : List (Part Bytes)) → bytes ≡ package_text parts
    → AllByRecursion HasText parts → are_parts parts ≡ true → is_too_large parts ≡ false → all_belong parts ≡ true
    → IsPackage bytes parts
unfolding package_text is_too_large
is_package bytes parts e texts are fit belong =
    let many = length-map parts canonical in
    let few = and_parts (nat_le 1 (length parts) && nat_le (length parts) part_limit)
    (all_differ (map cluster_of parts)) are in
    let counts = and_parts (nat_le 1 (length parts)) (nat_le (length parts) part_limit) few.0 in
    let within = ltb-false (texts_limit (length parts)) (texts_size parts) (or_parts _ _ fit).0 in
    record {
      written = map canonical parts;
      are = sym (map-map (λ (w : Written). w.part) canonical parts ∙ map-id parts);
      some = omega (arith, many, leb-true 1 (length parts) counts.0);
      few = omega (arith, many, leb-true (length parts) part_limit counts.1);
      differ = few.1;
      spelled = e;
      texts = omega (arith, texts-of parts, within, ap texts_limit many);
      each = are-written parts texts belong;
    }
