use Rattle.node_core.proofs.Names.{count_of, length, [], ◌+◌, ◌≡◌, ◌≤◌}
use Rattle.node_core.proofs.session_rules.count_changed.Given as goal

abbrev pub invariant-loop-rest : goal.invariant-loop-rest
invariant-loop-rest l =
    (l.count + count_of [] l.rest l.parts ≡ count_of [] l.fn.changes l.parts)
    × (l.count + length l.rest ≤ length l.fn.changes)

abbrev pub decreases-loop-rest : goal.decreases-loop-rest
decreases-loop-rest l = length l.rest
