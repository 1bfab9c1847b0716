use Rattle.node_core.proofs.Names.{map, planned_of, take, ◌≡◌}
use Rattle.node_core.proofs.plan.take_over.Given as goal

abbrev pub invariant-loop-cluster : goal.invariant-loop-cluster
invariant-loop-cluster l = map planned_of l.plan.items ≡ take l.cluster-index l.clusters
