use Rattle.node_core.proofs.Names.{count_of, length, ◌+◌, ◌≡◌, ◌≤◌}
use Rattle.node_core.proofs.session_rules.is_full.Given as goal

abbrev pub invariant-loop-rest : goal.invariant-loop-rest
invariant-loop-rest l =
    (l.count + count_of l.rest l.changes l.parts ≡ count_of l.fn.clusters l.changes l.parts)
    × (l.count + length l.rest ≤ length l.fn.clusters)

abbrev pub decreases-loop-rest : goal.decreases-loop-rest
decreases-loop-rest l = length l.rest
