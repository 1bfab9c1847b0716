-- Bytes in hexadecimal, piece by piece.
use Rattle.std.proofs.Common.{◌≡◌, ◌++◌, ◌∷◌, ◌/◌, ◌%◌, ◌∙◌, [], ℕ, List, ap, arith, length, refl, sym}
use Rattle.std.proofs.lemmas.List.{append-nil, append_assoc}
use Rattle.hex.specs.Hex.{encode_lower, encode_with, lower_digits}
use Rattle.std.specs.Prelude.{slice_index}

pub spelled_append : (t xs ys : List ℕ) → encode_with t (xs ++ ys) ≡ encode_with t xs ++ encode_with t ys
unfolding encode_with
spelled_append t [] ys = refl
spelled_append t (x ∷ xs) ys = ap (λ zs. slice_index t (x / 16) ∷ slice_index t (x % 16) ∷ zs) (spelled_append t xs ys)

-- one piece more is spelled
pub next-piece : (text new piece more left all : List ℕ) → new ≡ text ++ encode_lower piece → piece ++ more ≡ left
    → text ++ encode_lower left ≡ all → new ++ encode_lower more ≡ all
next-piece text new piece more left all put whole before =
    ap (λ t. t ++ encode_lower more) put
    ∙ append_assoc text (encode_lower piece) (encode_lower more)
    ∙ ap (λ t. text ++ t) (sym (spelled_append lower_digits piece more))
    ∙ ap (λ t. text ++ encode_lower t) whole
    ∙ before

-- nothing is left
pub all-spelled : (text left all : List ℕ) → length left ≡ 0 → text ++ encode_lower left ≡ all → text ≡ all
unfolding encode_with
all-spelled text [] all none before = sym (append-nil text) ∙ before
all-spelled text (x ∷ left) all none before = absurd (omega (arith, none))
