-- When a journal can go on, and what an append leaves.
use Rattle.std.specs.Prelude.{◌≡◌, ◌≢◌, ◌⊎◌, ℕ, ◌+◌, ◌<◌, List, [], ◌∷◌, ◌++◌, length, slice_index_or}
use Rattle.disk_area.specs.declared.area.Area.{Area}
use Rattle.disk_area.specs.Windows.{window, IsInside}
use Rattle.journal.specs.Records.{journal_list, taken}

-- the list of these bytes takes `used` of them, and the byte behind it is there and isn't 1
pub record GoesOn (used : ℕ) (bytes : List ℕ) : Type 0 where
  pub takes : taken (journal_list bytes) ≡ used
  pub room : used < length bytes
  pub shut : slice_index_or bytes used 1 ≢ 1

-- a journal goes on in the area of this image
pub record IsReady (area : Area) (used : ℕ) (image : List ℕ) : Type 0 where
  pub inside : IsInside area image
  pub goes_on : GoesOn used (window area image)

-- the list is as before, and goes on there
pub record Stays (used : ℕ) (old new : List ℕ) : Type 0 where
  pub list : journal_list new ≡ journal_list old
  pub goes_on : GoesOn used new

-- the list has the payload more, and goes on behind it
pub record Grows (used : ℕ) (payload old new : List ℕ) : Type 0 where
  pub list : journal_list new ≡ journal_list old ++ payload ∷ []
  pub goes_on : GoesOn (used + (5 + length payload)) new

-- the list before, or with the payload
abbrev pub MayGrow : ℕ → List ℕ → List ℕ → List ℕ → Type 0
MayGrow used payload old new = Stays used old new ⊎ Grows used payload old new
