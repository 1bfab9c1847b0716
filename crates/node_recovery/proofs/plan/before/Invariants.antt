use Rattle.std.proofs.Common.{◌≡◌, take}
use Rattle.std.specs.Prelude.{filter}
use Rattle.ucm_base.specs.Names.{name_lt}
use Rattle.node_recovery.proofs.plan.before.Given as goal

abbrev pub invariant-loop-cluster : goal.invariant-loop-cluster
invariant-loop-cluster l = l.before.items ≡ filter (λ d. name_lt d.name l.name) (take l.cluster-index l.clusters)
