-- What a call of extents may leave on the disk.
use Rattle.std.specs.Prelude.{◌≡◌, ⊤, List, [], ◌∷◌, ℕ, length, Ok, Err}
use Rattle.disk_core.specs.Bytes.{Torn, Puts}
use Rattle.disk_core.specs.Images.{EachImage, From, Only}
use Rattle.disk_core.specs.Moments.{LeavesOnly}
use Rattle.disk_core.specs.declared.plan.FaultPlan.{FaultPlan}
use Rattle.disk_area.specs.Windows.{window, InArea}
use Rattle.transfer_blocks.specs.Areas.{IsArea}
use Rattle.transfer_blocks.specs.Steps.{Step, puts, gets, wrote}
use Rattle.transfer_blocks.specs.declared.fault.StagingError.TheVariants.{Failed, OutOfMemory}
use Rattle.slot_store.specs.Extents.{extent_in, held_in}
use Rattle.slot_store.specs.declared.places.Places.{Places}

-- what a crash during the call may have changed: any bytes in the range that is put, and nothing where memory is
-- wanting
abbrev pub Tears : Places → Step → List ℕ → List ℕ → Type 0
Tears places (puts area at bytes (Err OutOfMemory)) old new = new ≡ old
Tears places (puts area at bytes end) old new = InArea (extent_in places area) (Torn at (length bytes)) old new
Tears places (gets end) old new = new ≡ old

-- the bytes are put, where the call succeeded
abbrev pub IsPut : Places → Step → List ℕ → List ℕ → Type 0
IsPut places (puts area at bytes (Ok given)) old new =
    Puts at bytes (window (extent_in places area) old) (window (extent_in places area) new)
IsPut places (puts area at bytes (Err fault)) old new = ⊤
IsPut places (gets end) old new = ⊤

-- what has changed after the call
abbrev pub Does : Places → Step → List ℕ → List ℕ → Type 0
Does places step old new = Tears places step old new × IsPut places step old new

-- a put ends with a sync: where it succeeded nothing is pending behind it; behind one that wanted memory, and behind a
-- read, where nothing was
abbrev pub Settles : Step → Type 0 → Type 0 → Type 0
Settles (puts area at bytes (Ok given)) before after = after
Settles (puts area at bytes (Err Failed)) before after = ⊤
Settles (puts area at bytes (Err OutOfMemory)) before after = before → after
Settles (gets end) before after = before → after

-- A crash at any moment of the call leaves an image of before it, torn in the range that is put; a crash after it, one
-- with the bytes put, where the call succeeded.
pub record Leaves {D : Type 0} (seen : D → List ℕ) (images : D → List ℕ → Type 0) (moment : D → ℕ)
    (left_since : D → ℕ → List ℕ → Type 0) (armed : D → FaultPlan) (places : Places) (step : Step) (old new : D)
    : Type 0 where
  pub moments : LeavesOnly moment left_since old new (From (images old) (Tears places step))
  pub after : EachImage (images new) (From (images old) (Does places step))
  pub settles : Settles step (Only (seen old) (images old)) (Only (seen new) (images new))
  pub plan : armed new ≡ armed old

-- what a crash during these calls, one after another, may have changed
abbrev pub TornBy : Places → List Step → List ℕ → List ℕ → Type 0
TornBy places [] old new = new ≡ old
TornBy places (step ∷ steps) old new = (mid : List ℕ) × Tears places step old mid × TornBy places steps mid new

-- the call is one on an area of a node
abbrev pub IsOnArea : Step → Type 0
IsOnArea (puts area at bytes end) = IsArea area
IsOnArea (gets end) = ⊤

-- the areas hold what these calls put into them, where each succeeded
abbrev pub Wrote : Places → List Step → List ℕ → List ℕ → Type 0
Wrote places steps old new = held_in places new ≡ wrote steps (held_in places old)
