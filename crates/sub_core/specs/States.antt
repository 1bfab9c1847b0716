-- What a driver has come to.
use Rattle.std.specs.Prelude.{◌≡◌, ℕ, suc, ◌+◌, ◌-◌, ◌*◌, ◌<◌, ◌≤◌, ⊤, Bool, if◌then◌else◌, List, [], length, slice_index_or, Option}
use Rattle.ucm_base.specs.Limits.{block_limit}
use Rattle.sub_core.specs.declared.answers.PackageSize.{PackageSize}
use Rattle.sub_core.specs.declared.answers.Rises.{Rises}
use Rattle.sub_core.specs.declared.answers.Round.{Round}
use Rattle.sub_core.specs.declared.answers.SendStep.{SendStep}
use Rattle.sub_core.specs.declared.progress.Progress.{Progress}
use Rattle.sub_core.specs.declared.progress.EndProgress.{EndProgress}

-- `number` is that of the next message, or of the one that is open: sent, and not answered yet. `ids` are the transfers
-- that are whole. `misses` are the failed attempts in a row at what is asked, the first one first
pub record DriverState : Type 0 where
  pub epoch : ℕ
  pub campaign : ℕ
  pub steps : List PackageSize
  pub ids : List ℕ
  pub number : ℕ
  pub is_open : Bool
  pub misses : List Rises
  pub round : Option Round
  pub progress : Progress

-- the package of a step, by its place
abbrev pub size_at : List PackageSize → ℕ → PackageSize
size_at steps place = slice_index_or steps place (record { index = 0; length = 0 })

-- numbers are used up where the next one is so high
abbrev pub number_limit : ℕ
number_limit = 4294967296

-- a call without a package
abbrev pub NeedsNone : SendStep → Type 0
NeedsNone (SendStep.Start p) = ⊥
NeedsNone (SendStep.Data p id counter) = ⊥
NeedsNone step = ⊤

abbrev pub IsPlacedEnd : EndProgress → Type 0
IsPlacedEnd (EndProgress.Call step) = NeedsNone step
IsPlacedEnd (EndProgress.Delete listed place) = place < length listed
IsPlacedEnd _ = ⊤

-- the progress fits the packages and the transfers that are whole
abbrev pub IsPlaced : List PackageSize → List ℕ → Progress → Type 0
IsPlaced steps ids Progress.Sync = ids ≡ []
IsPlaced steps ids Progress.Transfer = length ids < length steps
IsPlaced steps ids (Progress.Data id counter left) =
    (length ids < length steps) × (1 ≤ counter) × (counter + left ≤ suc (size_at steps (length ids)).length)
    × (left ≡ (size_at steps (length ids)).length - block_limit * (counter - 1))
IsPlaced steps ids (Progress.Process taken settled) = (taken ≤ length ids) × (length ids ≡ length steps)
IsPlaced steps ids (Progress.Ending commit at) = IsPlacedEnd at
IsPlaced steps ids _ = ⊤

-- what holds of every driver
pub record IsSound (d : DriverState) : Type 0 where
  pub some : 0 < length d.steps
  pub numbers : d.number + (if d.is_open then 1 else 0) ≤ number_limit
  pub misses : length d.misses ≤ 8
  pub placed : IsPlaced d.steps d.ids d.progress
