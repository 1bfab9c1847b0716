-- Plans of a disk's faults.
use Rattle.std.specs.Prelude.{[]}
use Rattle.disk_core.specs.declared.plan.FaultPlan.{FaultPlan}

-- the empty plan
abbrev pub no_faults : FaultPlan
no_faults = record { stops = []; fails = [] }
