-- No spelling of a field begins another.
use Rattle.std.proofs.Common.{◌≡◌, ℕ, Bool, true, false, List, [], ◌∷◌, ◌++◌, length, Option, Some, None, refl, sym, ◌∙◌, ap, append_assoc, arith}
use Rattle.std.specs.Prelude.{◌==◌}
use Rattle.std.specs.Int.{from_be_bytes, w16, w32, w64}
use Rattle.std.proofs.lemmas.Bool.Decides.{nat_tests}
use Rattle.std.specs.List.{flat_map, AllByRecursion}
use Rattle.std.proofs.lemmas.List.Concat.{flat_map-cons}
use Rattle.std.proofs.lemmas.Nat.{from_be_bytes-to_be_bytes_2, from_be_bytes-to_be_bytes_4, from_be_bytes-to_be_bytes_8}
use Rattle.wire.specs.Fields.{u8_field, u16_field, u32_field, u64_field}
use Rattle.wire.proofs.Spelled.{same_front}
use Rattle.event_codec.specs.Spelling.{Any, HasBits, IsUnique, pair_spelled, PairFits, option_spelled, OptionFits, bool_spelled, ManyFit, list_spelled, ListFits}
use Rattle.event_codec.specs.Texts.{text_spelled}

-- the first bytes, and the rest
pub parted : {a b : ℕ} {xs ys : List ℕ} → a ∷ xs ≡ b ∷ ys → (a ≡ b) × (xs ≡ ys)
parted e = ((cc), (cc))

pub apart : {a b : ℕ} {xs ys : List ℕ} → a ∷ xs ≡ b ∷ ys → (a == b) ≡ false → ⊥
apart {a = a} {b = b} e differ = let same : a ≡ b = (parted e).0 in grind (arith, nat_tests)

pub unique-u8 : {P : ℕ → Type 0} → IsUnique u8_field P
unique-u8 = record { one = λ v w rest others f g e. ((cc), (cc)) }

pub unique-u16 : IsUnique u16_field (HasBits 16)
unique-u16 = record {
  one = λ v w rest others f g e.
      let same = same_front (u16_field v) (u16_field w) rest others refl e in (
        sym (from_be_bytes-to_be_bytes_2 v f) ∙ ap (λ xs. from_be_bytes w16 xs) same.0
            ∙ from_be_bytes-to_be_bytes_2 w g,
        same.1,
      );
}

pub unique-u32 : IsUnique u32_field (HasBits 32)
unique-u32 = record {
  one = λ v w rest others f g e.
      let same = same_front (u32_field v) (u32_field w) rest others refl e in (
        sym (from_be_bytes-to_be_bytes_4 v f) ∙ ap (λ xs. from_be_bytes w32 xs) same.0
            ∙ from_be_bytes-to_be_bytes_4 w g,
        same.1,
      );
}

pub unique-u64 : IsUnique u64_field (HasBits 64)
unique-u64 = record {
  one = λ v w rest others f g e.
      let same = same_front (u64_field v) (u64_field w) rest others refl e in (
        sym (from_be_bytes-to_be_bytes_8 v f) ∙ ap (λ xs. from_be_bytes w64 xs) same.0
            ∙ from_be_bytes-to_be_bytes_8 w g,
        same.1,
      );
}

pub unique-text : {P : List ℕ → Type 0} → IsUnique text_spelled P
unique-text = record {
  one = λ v w rest others f g e.
      let n : length v ≡ length w = cc in
      let tails : v ++ rest ≡ w ++ others = cc in
      same_front v w rest others n tails;
}

same_bools : (v w : Bool) (rest others : List ℕ) → bool_spelled v ++ rest ≡ bool_spelled w ++ others
    → (v ≡ w) × (rest ≡ others)
same_bools true true rest others e = (refl, (cc))
same_bools false false rest others e = (refl, (cc))
same_bools v w rest others e = absurd (cc)

pub unique-bool : IsUnique bool_spelled Any
unique-bool = record { one = λ v w rest others f g e. same_bools v w rest others e }

-- by a code from which the value can be told
pub unique-code : {T : Type 0} (code : T → ℕ) (of : ℕ → T) → ((v : T) → of (code v) ≡ v)
    → IsUnique (λ v. u8_field (code v)) Any
unique-code code of back = record {
  one = λ v w rest others f g e.
      let same = parted e in (sym (back v) ∙ ap of same.0 ∙ back w, same.1);
}

pub unique-pair : {A B : Type 0} {a : A → List ℕ} {P : A → Type 0} {b : B → List ℕ} {Q : B → Type 0}
    → IsUnique a P → IsUnique b Q → IsUnique (pair_spelled a b) (PairFits P Q)
unique-pair {a = a} {b = b} one other = record {
  one = λ v w rest others f g e.
      let first =
      one.one v.0 w.0 (b v.1 ++ rest) (b w.1 ++ others) f.0 g.0 (sym (append_assoc (a v.0) (b v.1) rest) ∙ e
      ∙ append_assoc (a w.0) (b w.1) others) in
      let second = other.one v.1 w.1 rest others f.1 g.1 first.1 in
      ((λ i. (first.0 i, second.0 i)), second.1);
}

-- a value that is spelled as another from which it can be made again
pub unique-by : {A B : Type 0} {s : A → List ℕ} {P : A → Type 0} (to : B → A) (from : A → B)
    → ((b : B) → from (to b) ≡ b)
    → IsUnique s P → IsUnique (λ b. s (to b)) (λ b. P (to b))
unique-by to from back is = record {
  one = λ v w rest others f g e.
      let same = is.one (to v) (to w) rest others f g e in (sym (back v) ∙ ap from same.0 ∙ back w, same.1);
}

same_options : {T : Type 0} (s : T → List ℕ) (P : T → Type 0) → IsUnique s P → (v w : Option T) (rest others : List ℕ)
    → OptionFits P v → OptionFits P w → option_spelled s v ++ rest ≡ option_spelled s w ++ others
    → (v ≡ w) × (rest ≡ others)
same_options s P is None None rest others f g e = (refl, (cc))
same_options s P is (Some v) (Some w) rest others f g e =
    let same = is.one v w rest others f g (cc) in ((λ i. Some (same.0 i)), same.1)
same_options s P is v w rest others f g e = absurd (cc)

pub unique-option : {T : Type 0} {s : T → List ℕ} {P : T → Type 0} → IsUnique s P
    → IsUnique (option_spelled s) (OptionFits P)
unique-option {s = s} {P = P} is = record { one = same_options s P is }

same_many : {T : Type 0} (s : T → List ℕ) (P : T → Type 0) → IsUnique s P → (v w : List T) (rest others : List ℕ)
    → AllByRecursion P v → AllByRecursion P w → length v ≡ length w → flat_map s v ++ rest ≡ flat_map s w ++ others
    → (v ≡ w) × (rest ≡ others)
same_many s P is [] [] rest others f g n e = (refl, e)
same_many s P is (x ∷ v) (y ∷ w) rest others f g n e =
    let first = is.one x y (flat_map s v ++ rest) (flat_map s w ++ others) f.0 g.0 (
    sym (append_assoc (s x) (flat_map s v) rest) ∙ ap (λ t. t ++ rest) (sym (flat_map-cons s x v)) ∙ e
    ∙ ap (λ t. t ++ others) (flat_map-cons s y w) ∙ append_assoc (s y) (flat_map s w) others) in
    let more = same_many s P is v w rest others f.1 g.1 (omega arith) first.1 in
    ((λ i. first.0 i ∷ more.0 i), more.1)
same_many s P is [] (y ∷ w) rest others f g n e = absurd (omega arith)
same_many s P is (x ∷ v) [] rest others f g n e = absurd (omega arith)

pub unique-many : {T : Type 0} {s : T → List ℕ} {P : T → Type 0} (n : ℕ) → IsUnique s P
    → IsUnique (flat_map s) (ManyFit P n)
unique-many {s = s} {P = P} n is =
    record { one = λ v w rest others f g e. same_many s P is v w rest others f.1 g.1 (f.0 ∙ sym g.0) e }

pub unique-list : {T : Type 0} {s : T → List ℕ} {P : T → Type 0} (n : ℕ) → IsUnique s P
    → IsUnique (list_spelled s) (ListFits P n)
unique-list {s = s} {P = P} n is = record {
  one = λ v w rest others f g e.
      let long : length v ≡ length w = cc in
      let tails : flat_map s v ++ rest ≡ flat_map s w ++ others = cc in
      same_many s P is v w rest others f.1 g.1 long tails;
}
