-- What every call of a device says alike.
use Rattle.std.specs.Prelude.{◌≡◌, ℕ, ◌≤◌, List, length}
use Rattle.fault_count.specs.Faults.{HasRisen}
use Rattle.disk_core.specs.Images.{SameImages}
use Rattle.disk_core.specs.declared.plan.FaultPlan.{FaultPlan}

-- a read gives what it gave, and a crash may leave what it might have left
pub record IsUntouched {D : Type 0} (seen : D → List ℕ) (images : D → List ℕ → Type 0) (old new : D) : Type 0 where
  pub same_bytes : seen new ≡ seen old
  pub same_images : SameImages (images old) (images new)

-- a failure was counted, and no count falls; the plan and the size stay
pub record IsServed {D : Type 0} (seen : D → List ℕ) (fault_count : D → ℕ) (armed : D → FaultPlan) (failed : Type 0)
    (old new : D) : Type 0 where
  pub cause : failed → HasRisen (fault_count old) (fault_count new)
  pub no_fewer : fault_count old ≤ fault_count new
  pub same_plan : armed new ≡ armed old
  pub same_size : length (seen new) ≡ length (seen old)
