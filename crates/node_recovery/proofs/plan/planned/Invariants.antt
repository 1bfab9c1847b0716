use Rattle.std.proofs.Common.{◌≡◌, drop}
use Rattle.pm_types.specs.Clusters.{planned}
use Rattle.node_recovery.proofs.plan.planned.Given as goal

abbrev pub invariant-loop-change : goal.invariant-loop-change
invariant-loop-change l = planned (drop l.change-index l.changes) l.clusters ≡ planned l.changes l.saved
