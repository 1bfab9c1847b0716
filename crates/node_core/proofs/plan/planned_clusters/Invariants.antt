use Rattle.node_core.proofs.Names.{map, planned_of, take, ◌≡◌}
use Rattle.node_core.proofs.plan.planned_clusters.Given as goal

abbrev pub invariant-loop-planned : goal.invariant-loop-planned
invariant-loop-planned l = l.clusters.items ≡ map planned_of (take l.planned-index l.planned-items)
