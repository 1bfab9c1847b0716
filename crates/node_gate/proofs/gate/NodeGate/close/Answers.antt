use Rattle.std.proofs.Common.{List, Option, Some, None}
use Rattle.std.specs.Prelude.{IfSome}
use Rattle.turn_gate.specs.Seats.{fixed_in, parts_in}
use Rattle.node_gate.proofs.Seats.{handed_back}
use Rattle.node_gate.proofs.gate.NodeGate.close.Goals as goal

pub returns-clause-left : goal.returns-clause-left
returns-clause-left g c =
    let d = g.D.Disk in
    let it = c.close-node.result in
    handed_back d.moment d.left_since d.seen d.images d.armed d.fault_count it.fails.items it.node it.entries.items
    it.pending (parts_in c.args.seats.items) (fixed_in c.args.seats.items) c.close-node.ensures.is_true
    c.close-node.ensures.own_entries
