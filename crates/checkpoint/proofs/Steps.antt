-- The moments of the calls on halves, from a disk with nothing pending.
use Rattle.std.proofs.Common.{ℕ, List, sym, subst}
use Rattle.disk_core.specs.Images.{EachImage, Only, SameImages, From}
use Rattle.disk_core.specs.Moments.{Elapses, LeavesOnly}
use Rattle.disk_core.proofs.Moments.{settled, goes_on, joined}

module _ {D : Type 0} (moment : D → ℕ) (left_since : D → ℕ → List ℕ → Type 0) (images : D → List ℕ
    → Type 0) (old : D) (s : List ℕ) (only : Only s (images old)) (here : EachImage (left_since old (moment old))
    (images old))
    (P : List ℕ → Type 0) (now : P s) where
  -- a call that leaves the images
  pub unwritten : (mid : D) → SameImages (images old) (images mid)
      → Elapses (moment old) (moment mid) (left_since old) (left_since mid) (images mid)
      → LeavesOnly moment left_since old mid P
  unwritten mid same time =
      goes_on moment left_since old old mid P (images mid)
      (settled moment left_since old s (images old) P only here now) time
      (λ c left. subst P (sym (only c (same.none_new c left))) now)

  -- and another one
  pub unwritten_twice : (mid new : D) → SameImages (images old) (images mid)
      → LeavesOnly moment left_since old mid P → SameImages (images mid) (images new)
      → Elapses (moment mid) (moment new) (left_since mid) (left_since new) (images new)
      → LeavesOnly moment left_since old new P
  unwritten_twice mid new was so_far same time =
      goes_on moment left_since old mid new P (images new) so_far time
      (λ c left. subst P (sym (only c (was.none_new c (same.none_new c left)))) now)

  -- a call that steps from the images
  pub stepped : (mid new : D) (step : List ℕ → List ℕ → Type 0) → SameImages (images old) (images mid)
      → LeavesOnly moment left_since old mid P → LeavesOnly moment left_since mid new (From (images mid) step)
      → EachImage (step s) P → LeavesOnly moment left_since old new P
  stepped mid new step same so_far more weaken =
      joined moment left_since old mid new P (From (images mid) step) so_far more
      (λ c from. weaken c (subst (λ (d : List ℕ). step d c) (only from.0 (same.none_new from.0 from.1)) from.2))
