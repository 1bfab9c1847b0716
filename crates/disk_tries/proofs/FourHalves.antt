-- A disk with room for four halves.
use Rattle.std.proofs.Common.{◌≤◌, ◌≡◌, ◌+◌, ◌-◌, ◌<◌, inl, inr, ℕ, zero, suc, ltb, List, length, drop, get_or, replicate, None, refl, sym, ◌∙◌, ap, subst, arith, lit≤}
use Rattle.std.proofs.lemmas.Bool.{cases_Bool, cond-true, cond-false}
use Rattle.std.proofs.lemmas.List.{length-replicate, get_or-take, drop-replicate}
use Rattle.disk_area.specs.Windows.{window}
use Rattle.checkpoint.specs.Halves.{HasPair, layout_1, layout_2, layout_of, begins, head_area, half_of}
use Rattle.checkpoint.proofs.Gates.{shut_none}
use Rattle.checkpoint.specs.declared.layout.Layout.{Layout}
use Rattle.disk_tries.specs.Fits.{Fits}

pub each_fits : (half : ℕ) → Fits 67108864 (layout_of half)
unfolding layout_of
each_fits half = elim (cases_Bool (ltb half 2)) [
  | inl below ↦ subst (λ (l : Layout). Fits 67108864 l) (sym (cond-true (ltb half 2) layout_1 layout_2 below)) (lit≤ tt)
  | inr above ↦ subst (λ (l : Layout). Fits 67108864 l) (sym (cond-false (ltb half 2) layout_1 layout_2 above))
      (lit≤ tt)
]

pub zeros_have : (size : ℕ) (layout : Layout) (image : List ℕ) → Fits size layout → image ≡ replicate size 0
    → HasPair layout image
zeros_have size layout image fits is = omega (arith, fits, ap length is, length-replicate {A = ℕ} size 0)

-- each half takes a short state
pub each_takes : (half n : ℕ) → n ≤ 131072 → n ≤ (layout_of half).state_max
unfolding layout_of
each_takes half n short = elim (cases_Bool (ltb half 2)) [
  | inl below ↦ subst (λ (l : Layout). n ≤ l.state_max) (sym (cond-true (ltb half 2) layout_1 layout_2 below)) short
  | inr above ↦ subst (λ (l : Layout). n ≤ l.state_max) (sym (cond-false (ltb half 2) layout_1 layout_2 above))
      (omega (arith, short))
]

-- a note fits the journal of half 0 and its pair, and a tally's text the half
pub note_fits : (layout : Layout) (n : ℕ) → layout ≡ layout_of 0 → n ≡ 900000 → n + 6 ≤ layout.journal_len
unfolding layout_of
note_fits layout n is long = omega (arith, long, ap (λ (l : Layout). l.journal_len) is)

pub text_fits : (layout : Layout) → layout ≡ layout_of 0 → 8 ≤ layout.state_max
unfolding layout_of
text_fits layout is = omega (arith, ap (λ (l : Layout). l.state_max) is)

-- on zeros no half reads
first_zero : (n : ℕ) → get_or (replicate {A = ℕ} n 0) 0 0 ≡ 0
first_zero zero = refl
first_zero (suc n) = refl

pub zeros_shut : (half size : ℕ) (image : List ℕ) → image ≡ replicate {A = ℕ} size 0 → half_of half image ≡ None
zeros_shut half size image is =
    shut_none (layout_of half).state_max (window (head_area half) image) (λ one. not_one zero_gate one)
  where
    some : (n : ℕ) → 0 < n + 1
    some n = omega arith

    not_one : {n : ℕ} → n ≡ 0 → n ≡ 1 → ⊥
    not_one is_zero is_one = omega (arith, is_zero, is_one)

    gone : drop (begins half) (replicate {A = ℕ} size 0) ≡ replicate {A = ℕ} (size - begins half) 0
    gone = drop-replicate (begins half) size 0

    zero_gate : get_or (window (head_area half) image) 0 0 ≡ 0
    zero_gate =
        get_or-take ((layout_of half).journal_at + 1) (drop (begins half) image) 0 0 (some (layout_of half).journal_at)
        ∙ ap (λ (xs : List ℕ). get_or (drop (begins half) xs) 0 0) is
        ∙ ap (λ (xs : List ℕ). get_or xs 0 0) gone
        ∙ first_zero (size - begins half)

-- a disk that ends with half 1 has both halves
pub two_fit : Fits 4194304 (layout_of 0)
unfolding layout_of
two_fit = lit≤ tt
