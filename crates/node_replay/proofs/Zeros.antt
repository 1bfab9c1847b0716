-- A disk on which nothing was written can be formatted.
use Rattle.std.proofs.Common.{◌≤◌, ◌≡◌, ◌+◌, ◌-◌, ◌<◌, ℕ, zero, suc, List, drop, get_or, replicate, refl, ◌∙◌, ap, arith}
use Rattle.std.proofs.lemmas.List.{get_or-take, drop-replicate}
use Rattle.disk_area.specs.Windows.{window}
use Rattle.checkpoint.specs.Halves.{begins, head_area, layout_of}
use Rattle.checkpoint.proofs.Gates.{shut_none}
use Rattle.node_store.specs.Open.{IsBlank}

first_zero : (n : ℕ) → get_or (replicate {A = ℕ} n 0) 0 0 ≡ 0
first_zero zero = refl
first_zero (suc n) = refl

pub zeros_blank : (size : ℕ) (image : List ℕ) → image ≡ replicate {A = ℕ} size 0 → IsBlank image
zeros_blank size image is =
    shut_none (layout_of 3).state_max (window (head_area 3) image) (λ one. not_one zero_gate one)
  where
    some : (n : ℕ) → 0 < n + 1
    some n = omega arith

    not_one : {n : ℕ} → n ≡ 0 → n ≡ 1 → ⊥
    not_one is_zero is_one = omega (arith, is_zero, is_one)

    zero_gate : get_or (window (head_area 3) image) 0 0 ≡ 0
    zero_gate =
        get_or-take ((layout_of 3).journal_at + 1) (drop (begins 3) image) 0 0 (some (layout_of 3).journal_at)
        ∙ ap (λ (xs : List ℕ). get_or (drop (begins 3) xs) 0 0) is
        ∙ ap (λ (xs : List ℕ). get_or xs 0 0) (drop-replicate (begins 3) size 0)
        ∙ first_zero (size - begins 3)
