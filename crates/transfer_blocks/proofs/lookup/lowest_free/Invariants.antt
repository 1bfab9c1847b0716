use Rattle.std.proofs.Common.{◌≡◌, ◌-◌}
use Rattle.std.specs.Prelude.{find}
use Rattle.std.specs.List.{range_with_len}
use Rattle.ucm_base.specs.Limits.{transfer_limit}
use Rattle.transfer_blocks.specs.Table.{is_free, slots_of}
use Rattle.transfer_blocks.proofs.lookup.lowest_free.Given as goal

abbrev pub invariant-loop-slot : goal.invariant-loop-slot
invariant-loop-slot l =
    find (is_free (slots_of l.all)) (range_with_len 0 transfer_limit)
    ≡ find (is_free (slots_of l.all)) (range_with_len l.slot (transfer_limit - l.slot))
