-- How a run of calls goes on: what a crash at any of its moments may leave.
use Rattle.std.proofs.Common.{inl, inr, ⊎_elim, ℕ, List, sym, subst, arith}
use Rattle.disk_core.specs.Images.{EachImage, Only}
use Rattle.disk_core.specs.Moments.{Elapses, LeavesOnly}

module _ {D : Type 0} (moment : D → ℕ) (left_since : D → ℕ → List ℕ → Type 0) where
  -- before the first call
  pub started : (old : D) (P : List ℕ → Type 0) → EachImage (left_since old (moment old)) P
      → LeavesOnly moment left_since old old P
  started old P here = record { later = omega arith; each = here; earlier = λ t c le left. inl left }

  -- before the first call, where nothing is pending
  pub settled : (old : D) (image : List ℕ) (images P : List ℕ → Type 0) → Only image images
      → EachImage (left_since old (moment old)) images → P image → LeavesOnly moment left_since old old P
  settled old image images P only here p = started old P (λ c left. subst P (sym (only c (here c left))) p)

  -- one call of the disk more
  pub goes_on : (old mid new : D) (P images : List ℕ → Type 0) → LeavesOnly moment left_since old mid P
      → Elapses (moment mid) (moment new) (left_since mid) (left_since new) images
      → EachImage images P → LeavesOnly moment left_since old new P
  goes_on old mid new P images so_far time here = record {
    later = omega (arith, so_far.later, time.later);
    each = λ c left. ⊎_elim (so_far.each c) (here c) (time.nothing_else (moment old) c so_far.later left);
    earlier = λ t c le left. ⊎_elim (so_far.earlier t c le) (λ now. inr (here c now))
        (time.nothing_else t c (omega (arith, le, so_far.later)) left);
  }

  -- a run of calls more
  pub joined : (old mid new : D) (P Q : List ℕ → Type 0) → LeavesOnly moment left_since old mid P
      → LeavesOnly moment left_since mid new Q
      → EachImage Q P → LeavesOnly moment left_since old new P
  joined old mid new P Q so_far more weaken = record {
    later = omega (arith, so_far.later, more.later);
    each = λ c left. ⊎_elim (so_far.each c) (weaken c) (more.earlier (moment old) c so_far.later left);
    earlier = λ t c le left. ⊎_elim (so_far.earlier t c le) (λ q. inr (weaken c q))
        (more.earlier t c (omega (arith, le, so_far.later)) left);
  }

  -- a weaker property
  pub weaker : (old new : D) (P Q : List ℕ → Type 0) → EachImage P Q → LeavesOnly moment left_since old new P
      → LeavesOnly moment left_since old new Q
  weaker old new P Q weaken run = record {
    later = run.later;
    each = λ c left. weaken c (run.each c left);
    earlier = λ t c le left. ⊎_elim (λ was. inl was) (λ p. inr (weaken c p)) (run.earlier t c le left);
  }
