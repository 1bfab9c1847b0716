-- Texts cut at the first byte of a value.
use Rattle.std.proofs.Common.{◌≡◌, ◌<◌, ◌≤◌, ◌+◌, ℕ, Bool, true, false, cond, List, [], ◌∷◌, Option, Some, None, option_map, length, take, drop, length-take, length-drop, refl, ap, arith}
use Rattle.std.specs.Prelude.{◌==◌, nat_lt}
use Rattle.std.specs.List.{position_or_len, slice_split}
use Rattle.std.proofs.lemmas.Bool.Decides.{nat_tests}
use Rattle.std.proofs.lemmas.List.Splits.{slice_split_first, slice_split_none}
use Rattle.std.proofs.lemmas.List.Sums.{fails_before_first}
use Rattle.scenario.specs.Words.{cut}

abbrev place : ℕ → List ℕ → ℕ
place at text = position_or_len (λ b. b == at) text

abbrev cut_by : ℕ → List ℕ → Bool → Option (List ℕ × List ℕ)
cut_by at text found = option_map (λ i. (take i text, drop (i + 1) text)) (cond found (Some (place at text)) None)

-- the first part, and the parts of what stands behind it
abbrev pub IsCut : ℕ → List ℕ → List ℕ → List ℕ → Type 0
IsCut at text first rest = (slice_split (λ b. b == at) text ≡ first ∷ slice_split (λ b. b == at) rest)
    × (length first + (length rest + 1) ≡ length text)

cut-at : (at : ℕ) (text first rest : List ℕ) (found : Bool) → nat_lt (place at text) (length text) ≡ found
    → Some (first, rest) ≡ cut_by at text found → IsCut at text first rest
cut-at at text first rest true e is =
    let lt : place at text < length text = grind (arith, nat_tests) in
    let parts : ◌≡◌ {A = List ℕ × List ℕ} (first, rest) (take (place at text) text, drop (place at text + 1) text) =
    cc in
    let f : first ≡ take (place at text) text = ap (λ p. p.0) parts in
    let r : rest ≡ drop (place at text + 1) text = ap (λ p. p.1) parts in
    (rw (f, r) (slice_split_first (λ b. b == at) text 0 lt), rw (f, r) (simp (length-take, length-drop) (omega arith)))
cut-at at text first rest false e is = absurd (cc)

pub cut-Some : (at : ℕ) (text first rest : List ℕ) → Some (first, rest) ≡ cut at text → IsCut at text first rest
unfolding cut
cut-Some at text first rest is = cut-at at text first rest (nat_lt (place at text) (length text)) refl is

whole-at : (at : ℕ) (text : List ℕ) (found : Bool) → nat_lt (place at text) (length text) ≡ found
    → None ≡ cut_by at text found → slice_split (λ b. b == at) text ≡ text ∷ []
whole-at at text true e is = absurd (cc)
whole-at at text false e is =
    let all : length text ≤ place at text = grind (arith, nat_tests) in
    slice_split_none (λ b. b == at) text (λ k d lt. fails_before_first (λ b. b == at) text k d (omega arith))

pub cut-None : (at : ℕ) (text : List ℕ) → None ≡ cut at text → slice_split (λ b. b == at) text ≡ text ∷ []
unfolding cut
cut-None at text is = whole-at at text (nat_lt (place at text) (length text)) refl is
