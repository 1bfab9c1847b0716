use Rattle.std.proofs.Common.{◌≡◌, ◌-◌}
use Rattle.std.specs.Prelude.{find}
use Rattle.std.specs.List.{range_with_len}
use Rattle.ucm_base.specs.Limits.{cluster_limit}
use Rattle.transfer_blocks.specs.Table.{is_free}
use Rattle.node_recovery.proofs.destination.lowest_free.Given as goal

abbrev pub invariant-loop-place : goal.invariant-loop-place
invariant-loop-place l =
    find (is_free l.taken) (range_with_len 0 cluster_limit)
    ≡ find (is_free l.taken) (range_with_len l.place (cluster_limit - l.place))
