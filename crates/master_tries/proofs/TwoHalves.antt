-- A disk with room for halves 0 and 1, on which nothing was written.
use Rattle.std.proofs.Common.{◌≤◌, ◌≡◌, ◌+◌, ◌-◌, ◌<◌, ℕ, zero, suc, List, length, drop, get_or, replicate, None, refl, ◌∙◌, ap, arith, lit≤}
use Rattle.std.proofs.lemmas.List.{length-replicate, get_or-take, drop-replicate}
use Rattle.disk_area.specs.Windows.{window}
use Rattle.checkpoint.specs.Halves.{HasPair, layout_of, begins, head_area, half_of}
use Rattle.checkpoint.proofs.Gates.{shut_none}

pub zeros_have : (size : ℕ) (image : List ℕ)
    → (layout_of 0).upper + (layout_of 0).journal_at + (layout_of 0).journal_len ≤ size
    → image ≡ replicate size 0 → HasPair (layout_of 0) image
unfolding layout_of
zeros_have size image fits is = omega (arith, fits, ap length is, length-replicate {A = ℕ} size 0)

pub two_fit : (layout_of 0).upper + (layout_of 0).journal_at + (layout_of 0).journal_len ≤ 4194304
unfolding layout_of
two_fit = lit≤ tt

-- on zeros no half reads
first_zero : (n : ℕ) → get_or (replicate {A = ℕ} n 0) 0 0 ≡ 0
first_zero zero = refl
first_zero (suc n) = refl

pub zeros_shut : (half size : ℕ) (image : List ℕ) → image ≡ replicate {A = ℕ} size 0 → half_of half image ≡ None
zeros_shut half size image is =
    shut_none (layout_of half).state_max (window (head_area half) image) (λ one. not_one zero_gate one)
  where
    some : (n : ℕ) → 0 < n + 1
    some n = omega arith

    not_one : {n : ℕ} → n ≡ 0 → n ≡ 1 → ⊥
    not_one is_zero is_one = omega (arith, is_zero, is_one)

    gone : drop (begins half) (replicate {A = ℕ} size 0) ≡ replicate {A = ℕ} (size - begins half) 0
    gone = drop-replicate (begins half) size 0

    zero_gate : get_or (window (head_area half) image) 0 0 ≡ 0
    zero_gate =
        get_or-take ((layout_of half).journal_at + 1) (drop (begins half) image) 0 0 (some (layout_of half).journal_at)
        ∙ ap (λ (xs : List ℕ). get_or (drop (begins half) xs) 0 0) is
        ∙ ap (λ (xs : List ℕ). get_or xs 0 0) gone
        ∙ first_zero (size - begins half)
