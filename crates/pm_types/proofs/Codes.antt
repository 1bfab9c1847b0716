-- A status and its code.
use Rattle.std.specs.Prelude.{◌≡◌, refl}
use Rattle.pm_types.specs.declared.status.Status.{Status}
use Rattle.pm_types.specs.declared.status.Status.TheVariants.{Idle, Ready, Processing, Activating, Verifying, Activated, RollingBack, RolledBack, CleaningUp}
use Rattle.pm_types.specs.NodeState.{status_at, status_code}

-- the status of a status's code is that status
pub status_of_its_code : (s : Status) → status_at (status_code s) ≡ s
status_of_its_code Idle = refl
status_of_its_code Ready = refl
status_of_its_code Processing = refl
status_of_its_code Activating = refl
status_of_its_code Verifying = refl
status_of_its_code Activated = refl
status_of_its_code RollingBack = refl
status_of_its_code RolledBack = refl
status_of_its_code CleaningUp = refl
