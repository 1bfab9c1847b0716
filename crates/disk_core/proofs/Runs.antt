-- Calls that leave the images, one after another.
use Rattle.std.proofs.Common.{ℕ, List}
use Rattle.disk_core.specs.Images.{EachImage, SameImages, Within}
use Rattle.disk_core.specs.Moments.{Elapses, LeavesOnly}
use Rattle.disk_core.proofs.Moments.{started, goes_on, joined}

module _ {D : Type 0} (moment : D → ℕ) (left_since : D → ℕ → List ℕ → Type 0) (images : D → List ℕ → Type 0) where
  -- the first call
  pub first_run : (old new : D) → EachImage (left_since old (moment old)) (images old)
      → Within (images old) (images new)
      → Elapses (moment old) (moment new) (left_since old) (left_since new) (images new)
      → LeavesOnly moment left_since old new (images old)
  first_run old new here within time = goes_on moment left_since old old new (images old) (images new)
      (started moment left_since old (images old) here) time within

  -- one more call
  pub then_call : (old mid new : D) → LeavesOnly moment left_since old mid (images old)
      → Within (images old) (images mid) → Within (images mid) (images new)
      → Elapses (moment mid) (moment new) (left_since mid) (left_since new) (images new)
      → LeavesOnly moment left_since old new (images old)
  then_call old mid new so_far was within time = goes_on moment left_since old mid new (images old)
      (images new) so_far time (λ c now. was c (within c now))

  -- a run more
  pub then_run : (old mid new : D) → LeavesOnly moment left_since old mid (images old)
      → Within (images old) (images mid) → LeavesOnly moment left_since mid new (images mid)
      → LeavesOnly moment left_since old new (images old)
  then_run old mid new so_far was more = joined moment left_since old mid new (images old) (images mid) so_far more was

pub same_both : (a b c : List ℕ → Type 0) → SameImages a b → SameImages b c → SameImages a c
same_both a b c first second = record {
  none_new = λ x now. first.none_new x (second.none_new x now);
  none_lost = λ x was. second.none_lost x (first.none_lost x was);
}
