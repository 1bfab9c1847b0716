-- How long a canonical text is at most.
use Rattle.std.proofs.Common.{◌≡◌, ◌≤◌, ◌+◌, ◌*◌, ◌∙◌, ℕ, List, [], ◌∷◌, length, Bool, true, false, refl, ap, arith}
use Rattle.std.specs.Prelude.{◌&&◌, ◌/◌, ◌%◌, codes, cond, flat_map, nat_le, nat_lt}
use Rattle.std.specs.Char.{digit_char}
use Rattle.std.specs.List.{AllByRecursion, concat, list_all}
use Rattle.std.proofs.lemmas.Bool.{and_parts}
use Rattle.std.proofs.lemmas.List.{length-append}
use Rattle.std.proofs.lemmas.List.Elements.{recursion_from_All}
use Rattle.hex.specs.Hex.{encode_lower, lower_digits}
use Rattle.hex.proofs.HexLemmas.{length-encode_with}
use Rattle.json.specs.Print.{escape_byte, escape_letter, quoted}
use Rattle.ucm_base.specs.Name.{begins_with_letter, is_cluster_name, is_name_byte}
use Rattle.ucm_base.specs.Short.{is_short, is_visible}
use Rattle.ucm_base.specs.declared.parts.Action.{Action}
use Rattle.ucm_base.specs.declared.parts.Action.TheVariants.{Install, Update, Remove}
use Rattle.ucm_base.specs.declared.parts.Need.{Need}
use Rattle.ucm_base.specs.declared.parts.Manifest.{Manifest}
use Rattle.manifest.specs.Digits.{is_lower_digit}
use Rattle.manifest.specs.Valid.{IsDigest, IsManifest, IsNeed}
use Rattle.manifest.specs.Text.{action_word, manifest_text, need_text, needs_text}
use Rattle.manifest.proofs.Trees.{all_lower}

below : (m n : ℕ) → nat_le m n ≡ true → m ≤ n
below m n h = grind arith

not_below : (m n : ℕ) → n ≤ m → nat_lt m n ≡ false
not_below m n h = grind arith

abbrev sizes : List (List ℕ) → ℕ
sizes [] = 0
sizes (x ∷ xs) = length x + sizes xs

total : (xs : List (List ℕ)) → length (concat xs) ≡ sizes xs
total [] = refl
total (x ∷ xs) = length-append x (concat xs) ∙ ap (λ n. length x + n) (total xs)

two : (b c : Bool) (x l : ℕ) (long : List ℕ) → c ≡ false → length (cond b (92 ∷ l ∷ []) (cond c long (x ∷ []))) ≤ 2
two true c x l long h = omega arith
two false c x l long h = rw h (omega arith)

one_short : (x : ℕ) → 32 ≤ x → length (escape_byte x) ≤ 2
unfolding escape_byte
one_short x h = two (nat_lt 0 (escape_letter x)) (nat_lt x 32) x (escape_letter x) (92 ∷ 117 ∷ 48 ∷ 48
    ∷ digit_char (x / 16) ∷ digit_char (x % 16) ∷ []) (not_below x 32 h)

-- texts whose bytes all pass a test that no control character passes
module _ (p : ℕ → Bool) (visible : (x : ℕ) → p x ≡ true → 32 ≤ x) where
  escaped : (s : List ℕ) → list_all p s ≡ true → length (flat_map escape_byte s) ≤ 2 * length s
  escaped [] h = omega arith
  escaped (x ∷ s) h =
      let parts = and_parts (p x) (list_all p s) h in
      omega (
        arith,
        length-append (escape_byte x) (flat_map escape_byte s),
        one_short x (visible x parts.0),
        escaped s parts.1,
      )

  -- two bytes for each of them at most, and the quotes
  quoted_short : (s : List ℕ) (n : ℕ) → list_all p s ≡ true → length s ≤ n → length (quoted s) ≤ 2 * n + 2
  quoted_short s n h short = omega (arith, length-append (flat_map escape_byte s) (34 ∷ []), escaped s h, short)

name_short : (s : List ℕ) → is_cluster_name s ≡ true → length (quoted s) ≤ 66
name_short s h =
    let bytes = and_parts (begins_with_letter s && nat_le (length s) 32) (list_all is_name_byte s) h in
    let size = and_parts (begins_with_letter s) (nat_le (length s) 32) bytes.0 in
    quoted_short is_name_byte (λ x k. grind arith) s 32 bytes.1 (below (length s) 32 size.1)

text_short : (s : List ℕ) (b : Bool) → (is_short s && b) ≡ true → length (quoted s) ≤ 130
text_short s b h =
    let form = and_parts (is_short s) b h in
    let bytes = and_parts (nat_le 1 (length s) && nat_le (length s) 64) (list_all is_visible s) form.0 in
    let size = and_parts (nat_le 1 (length s)) (nat_le (length s) 64) bytes.0 in
    quoted_short is_visible (λ x k. grind arith) s 64 bytes.1 (below (length s) 64 size.1)

digest_short : (s : List ℕ) → IsDigest s → length (quoted (encode_lower s)) ≤ 130
digest_short s h =
    quoted_short is_lower_digit (λ x k. grind arith) (encode_lower s) 64 (all_lower s h.bytes)
    (omega (arith, length-encode_with lower_digits s, h.size))

action_short : (a : Action) → length (quoted (action_word a)) ≤ 9
unfolding escape_byte
action_short Install = omega arith
action_short Update = omega arith
action_short Remove = omega arith

need_short : (n : Need) → IsNeed n → length (need_text n) ≤ 213
need_short n h =
    let sum = total (codes "{\"name\":" ∷ quoted n.name ∷ codes ",\"req\":" ∷ quoted n.req ∷ codes "}" ∷ []) in
    omega (arith, sum, name_short n.name h.name, text_short n.req _ h.req)

needs_short : (ns : List Need) → AllByRecursion IsNeed ns → length (needs_text ns) ≤ 214 * length ns
needs_short [] h = omega arith
needs_short (n ∷ []) h = omega (arith, need_short n h.0)
needs_short (n ∷ k ∷ ns) h =
    omega (arith, length-append (need_text n) (44 ∷ needs_text (k ∷ ns)), need_short n h.0, needs_short (k ∷ ns) h.1)

pub manifest_short : (m : Manifest) → IsManifest m → length (manifest_text m) ≤ 4096
manifest_short m h =
    let needs = needs_short m.needs (recursion_from_All IsNeed m.needs h.needs) in
    let sum = total
    (codes "{\"action\":" ∷ quoted (action_word m.action)
    ∷ codes ",\"name\":" ∷ quoted m.name
    ∷ codes ",\"needs\":[" ∷ needs_text m.needs ∷ codes "]"
    ∷ codes ",\"sha256\":" ∷ quoted (encode_lower m.sha256)
    ∷ codes ",\"version\":" ∷ quoted m.version ∷ codes "}" ∷ []) in
    omega (
      arith,
      sum,
      h.few,
      needs,
      action_short m.action,
      name_short m.name h.name,
      digest_short m.sha256 h.sha256,
      text_short m.version _ h.version,
    )
