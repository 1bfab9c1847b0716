-- The call that a step stands for.
use Rattle.std.specs.Prelude.{◌≡◌, ℕ, ◌-◌, ◌*◌, ◌<◌, ◌≤◌, ⊤, List, [], length, map, slice_index_or}
use Rattle.std.specs.List.{AllByRecursion}
use Rattle.ucm_base.specs.Limits.{block_limit}
use Rattle.package_reader.specs.Packed.{PackedOf}
use Rattle.pm_types.specs.declared.calls.Call.{Call}
use Rattle.world.specs.RoundsBySize.{block_of}
use Rattle.sub_core.specs.declared.answers.PackageSize.{PackageSize}
use Rattle.sub_core.specs.declared.answers.SendStep.{SendStep}
use Rattle.sub_core.specs.declared.answers.Todo.{Todo}

abbrev pub bytes_of : List PackedOf → List (List ℕ)
bytes_of packages = map (λ p. p.bytes) packages

abbrev pub bytes_at : List (List ℕ) → ℕ → List ℕ
bytes_at packages p = slice_index_or packages p []

-- the package that a step names is in the list, and so is the block
abbrev pub IsThere : List (List ℕ) → SendStep → Type 0
IsThere packages (SendStep.Start p) = p < length packages
IsThere packages (SendStep.Data p id counter) =
    (p < length packages) × (1 ≤ counter) × (block_limit * (counter - 1) < length (bytes_at packages p))
IsThere packages step = ⊤

-- only a block is copied
abbrev pub IsBlock : SendStep → Type 0
IsBlock (SendStep.Data p id counter) = ⊤
IsBlock step = ⊥

-- the call of a step, over the bytes of the campaign's packages
abbrev pub call_of : List (List ℕ) → SendStep → Call
call_of packages SendStep.Sync = Call.Sync
call_of packages (SendStep.Start p) = Call.TransferStart (length (bytes_at packages p))
call_of packages (SendStep.Data p id counter) = Call.TransferData id counter (block_of counter (bytes_at packages p))
call_of packages (SendStep.Exit id) = Call.TransferExit id
call_of packages (SendStep.Process id tag) = Call.ProcessSwPackage id tag
call_of packages SendStep.Activate = Call.Activate
call_of packages SendStep.Finish = Call.Finish
call_of packages SendStep.Rollback = Call.Rollback
call_of packages SendStep.Revert = Call.RevertProcessedSwPackages
call_of packages (SendStep.Delete id) = Call.DeleteTransfer id

-- the bytes of the packages that the steps name, in their order
abbrev pub step_bytes : List (List ℕ) → List PackageSize → List (List ℕ)
step_bytes packages steps = map (λ s. bytes_at packages s.index) steps

-- the package of a step is in the list, and has this length
pub record IsPackage (packages : List (List ℕ)) (s : PackageSize) : Type 0 where
  pub there : s.index < length packages
  pub size : length (bytes_at packages s.index) ≡ s.length

abbrev pub AreThere : List (List ℕ) → List PackageSize → Type 0
AreThere packages steps = AllByRecursion (IsPackage packages) steps

-- what is asked for can be made of the packages
abbrev pub CanMake : List (List ℕ) → Todo → Type 0
CanMake packages (Todo.Send call_no step) = IsThere packages step
CanMake packages _ = ⊤
