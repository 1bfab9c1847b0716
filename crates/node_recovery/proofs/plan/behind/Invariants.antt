use Rattle.std.proofs.Common.{◌≡◌, take}
use Rattle.std.specs.Prelude.{filter}
use Rattle.ucm_base.specs.Names.{name_lt}
use Rattle.node_recovery.proofs.plan.behind.Given as goal

abbrev pub invariant-loop-cluster : goal.invariant-loop-cluster
invariant-loop-cluster l = l.behind.items ≡ filter (λ d. name_lt l.name d.name) (take l.cluster-index l.clusters)
