use Rattle.node_core.proofs.Names.{map, needing, needing_of, planned_of, take, ◌≡◌}
use Rattle.node_core.proofs.opening.needs_of.Given as goal

abbrev pub invariant-loop-planned : goal.invariant-loop-planned
invariant-loop-planned l = map needing l.all.items ≡ map needing_of (map planned_of (take l.planned-index l.plan))
