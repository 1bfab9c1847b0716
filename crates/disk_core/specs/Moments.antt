-- The moments of a disk: what a crash at some moment of a call, or of a run of calls, may have left.
use Rattle.std.specs.Prelude.{◌⊎◌, ℕ, ◌≤◌, List}
use Rattle.disk_core.specs.Images.{EachImage}

-- The clock goes on: the images since a moment that isn't after `before` are those that were, and those of now.
pub record Elapses (before now : ℕ) (past since : ℕ → List ℕ → Type 0) (images : List ℕ → Type 0) : Type 0 where
  pub later : before ≤ now
  pub nothing_else : (t : ℕ) (c : List ℕ) → t ≤ before → since t c → past t c ⊎ images c
  pub keeps : (t : ℕ) (c : List ℕ) → t ≤ before → past t c → since t c
  pub counts_now : (t : ℕ) (c : List ℕ) → t ≤ before → images c → since t c

-- A crash at any moment from `old` to `new` leaves an image that has P.
pub record LeavesOnly {D : Type 0} (moment : D → ℕ) (left_since : D → ℕ → List ℕ → Type 0) (old new : D)
    (P : List ℕ → Type 0) : Type 0 where
  pub later : moment old ≤ moment new
  pub each : EachImage (left_since new (moment old)) P
  -- for a run that began earlier
  pub earlier : (t : ℕ) (c : List ℕ) → t ≤ moment old → left_since new t c → left_since old t c ⊎ P c
