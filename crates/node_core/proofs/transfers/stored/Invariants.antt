use Rattle.node_core.proofs.Names.{map, take, ◌≡◌}
use Rattle.node_core.specs.Prepared.{stored_part}
use Rattle.node_core.proofs.transfers.stored.Given as goal

abbrev pub invariant-loop-part : goal.invariant-loop-part
invariant-loop-part l = l.stored.items ≡ map stored_part (take l.part-index l.parts)
