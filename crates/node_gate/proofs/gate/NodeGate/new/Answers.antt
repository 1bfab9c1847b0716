use Rattle.node_gate.proofs.Stands.{stands_first}
use Rattle.node_gate.proofs.gate.NodeGate.new.Goals as goal

pub new-requires-2-clause-stands_for : goal.new-requires-2-clause-stands_for
new-requires-2-clause-stands_for g c =
    let d = g.D.Disk in
    stands_first d c.args.fails.items c.args.node c.new.result.items
    c.new.ensures.items c.requires.open c.requires.known
    (λ image left. g.met.D.Disk.only_now c.args.node.extents.disk image left)
