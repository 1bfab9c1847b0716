-- The first record of bytes.
use Rattle.std.proofs.Common.{◌≡◌, inl, inr, ℕ, ◌<◌, ◌^◌, List, [], ◌∷◌, ◌++◌, length, refl, ◌∙◌, ap, arith, length-append, eqb, leb, ◌&&◌}
use Rattle.std.proofs.lemmas.Nat.{from_be_bytes-to_be_bytes_4}
use Rattle.std.proofs.lemmas.Bool.{cond-false, lt-leb}
use Rattle.wire.specs.Fields.{bytes_field, HasNoBytesField}
use Rattle.journal.specs.Records.{number_of, journal_list}
use Rattle.journal.proofs.Lists.{enough, opened}
use Rattle.journal.proofs.Appends.{four}

-- behind an open gate a field of bytes is the first record
pub whole_first : (record_bytes payload tail : List ℕ) → length payload < 2 ^ 32
    → record_bytes ≡ bytes_field payload ++ tail → journal_list (1 ∷ record_bytes) ≡ payload ∷ journal_list tail
unfolding number_of
whole_first record_bytes payload tail short is =
    let bytes = four (length payload) in
    let number : number_of bytes.0 bytes.1 bytes.2 bytes.3 ≡ length payload =
    from_be_bytes-to_be_bytes_4 (length payload) short in
    ap (λ (xs : List ℕ). journal_list (1 ∷ xs)) is
    ∙ opened (length (bytes_field payload ++ tail)) bytes.0 bytes.1 bytes.2 bytes.3 payload tail number
    ∙ ap (λ (ps : List (List ℕ)). payload ∷ ps)
    (enough (length (bytes_field payload ++ tail)) (length tail) tail
    (omega (arith, length-append (bytes_field payload) tail)) (omega arith))

-- with too few bytes behind the gate there is none
pub no_first : (bytes : List ℕ) → HasNoBytesField bytes → journal_list (1 ∷ bytes) ≡ []
unfolding number_of
no_first [] none = refl
no_first (a ∷ []) none = refl
no_first (a ∷ b ∷ []) none = refl
no_first (a ∷ b ∷ c ∷ []) none = refl
no_first (a ∷ b ∷ c ∷ d ∷ rest) (inl few) = absurd (omega (arith, few))
no_first (a ∷ b ∷ c ∷ d ∷ rest) (inr few) =
    cond-false (eqb 1 1 && leb (number_of a b c d) (length rest)) _ _
    (lt-leb (number_of a b c d) (length rest) (omega (arith, few)))
