-- The tree of a manifest reads as the manifest, and its text is the canonical one.
use Rattle.std.proofs.Common.{◌≡◌, ◌≤◌, ◌<◌, ◌/◌, ◌%◌, ◌++◌, ◌∙◌, ℕ, suc, List, [], ◌∷◌, length, map, true, false, Some, refl, sym, ap, arith}
use Rattle.std.specs.List.{AllByRecursion, list_all, slice_index}
use Rattle.std.proofs.lemmas.List.Elements.{recursion_from_All}
use Rattle.std.proofs.lemmas.List.{append_assoc, length-map}
use Rattle.hex.specs.Hex.{encode_lower, encode_with, lower_digits, IsBytes}
use Rattle.hex.proofs.HexLemmas.{decode_sized-encode_lower}
use Rattle.serde_json.specs.Data.{Data, depth, items_depth}
use Rattle.serde_json.specs.View.{items_of}
use Rattle.serde_json.specs.Written.{has_float, items_have_float, compact_text, items_text}
use Rattle.json.specs.Print.{escape_byte}
use Rattle.manifest.specs.Digits.{digest_of_text, is_lower_digit}
use Rattle.manifest.specs.Trees.{all_of, items_list}
use Rattle.manifest.specs.Form.{action_named, manifest_of_tree, need_of_tree}
use Rattle.std.specs.Prelude.{nat_le}
use Rattle.ucm_base.specs.Limits.{need_limit}
use Rattle.ucm_base.specs.declared.parts.Action.{Action}
use Rattle.ucm_base.specs.declared.parts.Action.TheVariants.{Install, Update, Remove}
use Rattle.manifest.specs.Valid.{IsDigest, IsManifest, IsNeed}
use Rattle.manifest.specs.Text.{action_word, manifest_text, need_text, needs_text}
use Rattle.manifest.specs.Written.{manifest_tree, need_tree}
use Rattle.ucm_base.specs.declared.parts.Need.{Need}
use Rattle.ucm_base.specs.declared.parts.Manifest.{Manifest}

-- ---- what is read back

lower : (d : ℕ) → d < 16 → is_lower_digit (slice_index lower_digits d) ≡ true
lower d h = grind arith

pub all_lower : (bytes : List ℕ) → IsBytes bytes → list_all is_lower_digit (encode_with lower_digits bytes) ≡ true
unfolding encode_with
all_lower [] h = refl
all_lower (b ∷ bytes) h =
    let small = h 0 in
    rw (lower (b / 16) (omega (arith, small)), lower (b % 16) (omega arith)) (all_lower bytes (λ i. h (suc i)))

digest_back : (digest : List ℕ) → IsDigest digest → digest_of_text (encode_lower digest) ≡ Some digest
digest_back digest h = rw (all_lower digest h.bytes, decode_sized-encode_lower digest 32 h.size h.bytes) refl

need_back : (n : Need) → IsNeed n → need_of_tree (need_tree n) ≡ Some n
need_back n h = rw (h.name, h.req) refl

needs_back : (ns : List Need) → AllByRecursion IsNeed ns → all_of need_of_tree (map need_tree ns) ≡ Some ns
needs_back [] h = refl
needs_back (n ∷ ns) h = rw (needs_back ns h.1, need_back n h.0) refl

listed : (ds : List Data) → items_list (items_of ds) ≡ ds
listed [] = refl
listed (d ∷ ds) = ap (λ xs. d ∷ xs) (listed ds)

few : (n : ℕ) → n ≤ need_limit → nat_le n need_limit ≡ true
few n h = grind arith

action_back : (a : Action) → action_named (action_word a) ≡ Some a
action_back Install = refl
action_back Update = refl
action_back Remove = refl

pub manifest_back : (m : Manifest) → IsManifest m → manifest_of_tree (manifest_tree m) ≡ Some m
manifest_back m h =
    let needs = needs_back m.needs (recursion_from_All IsNeed m.needs h.needs) in
    let low = few (length (map need_tree m.needs)) (omega (arith, length-map m.needs need_tree, h.few)) in
    rw (
      h.name,
      h.version,
      digest_back m.sha256 h.sha256,
      listed (map need_tree m.needs),
      needs,
      low,
      action_back m.action,
    ) refl

-- ---- what is written

no_float_items : (ns : List Need) → items_have_float (items_of (map need_tree ns)) ≡ false
no_float_items [] = refl
no_float_items (n ∷ ns) = no_float_items ns

pub no_float : (m : Manifest) → has_float (manifest_tree m) ≡ false
no_float m = rw (no_float_items m.needs) refl

low_items : (ns : List Need) → items_depth (items_of (map need_tree ns)) ≤ 1
low_items [] = omega arith
low_items (n ∷ ns) = let h = low_items ns in grind arith

pub low : (m : Manifest) → depth (manifest_tree m) ≤ 127
low m = let h = low_items m.needs in grind arith

-- ---- the text

need_written : (n : Need) → compact_text (need_tree n) ≡ need_text n
unfolding escape_byte
need_written n = refl

-- the needs after the first, each behind a comma
later_needs : (n : Need) (ns : List Need) → needs_text (n ∷ ns) ++ 93 ∷ [] ≡ compact_text (need_tree n)
    ++ items_text true (items_of (map need_tree ns))
later_needs n [] = ap (λ t. t ++ 93 ∷ []) (sym (need_written n))
later_needs n (k ∷ ns) =
    append_assoc (need_text n) (44 ∷ needs_text (k ∷ ns)) (93 ∷ [])
    ∙ ap (λ t. need_text n ++ 44 ∷ t) (later_needs k ns)
    ∙ ap (λ t. t ++ items_text true (items_of (map need_tree (k ∷ ns)))) (sym (need_written n))

needs_written : (ns : List Need) → items_text false (items_of (map need_tree ns)) ≡ needs_text ns ++ 93 ∷ []
needs_written [] = refl
needs_written (n ∷ ns) = sym (later_needs n ns)

pub manifest_written : (m : Manifest) → compact_text (manifest_tree m) ≡ manifest_text m
unfolding escape_byte
manifest_written m = rw (needs_written m.needs, append_assoc (needs_text m.needs) (93 ∷ []) _) refl
