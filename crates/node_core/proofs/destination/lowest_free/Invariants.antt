use Rattle.node_core.proofs.Names.{cluster_limit, find, is_free, range_with_len, ◌-◌, ◌≡◌}
use Rattle.node_core.proofs.destination.lowest_free.Given as goal

abbrev pub invariant-loop-place : goal.invariant-loop-place
invariant-loop-place l =
    find (is_free l.taken) (range_with_len 0 cluster_limit)
    ≡ find (is_free l.taken) (range_with_len l.place (cluster_limit - l.place))
