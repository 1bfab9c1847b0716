use Rattle.node_core.proofs.Names.{drop, map, planned, planned_of, ◌≡◌}
use Rattle.node_core.proofs.plan.plan.Given as goal

abbrev pub invariant-loop-change : goal.invariant-loop-change
invariant-loop-change l =
    planned (drop l.change-index l.changes) (map planned_of l.plan.items) ≡ planned l.fn.changes l.fn.saved
