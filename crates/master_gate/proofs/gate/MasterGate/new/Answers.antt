use Rattle.std.proofs.Common.{arith}
use Rattle.master_gate.proofs.Stands.{stands_first}
use Rattle.master_gate.proofs.gate.MasterGate.new.Goals as goal

pub new-requires-2-clause-stands_for : goal.new-requires-2-clause-stands_for
new-requires-2-clause-stands_for g c =
    let d = g.D.Disk in
    stands_first d.moment d.left_since d.seen d.images c.args.log c.new.result.items c.new.ensures.items
    (omega (arith, c.count.ensures, c.count.type_inv))
    (λ image left. g.met.D.Disk.only_now c.args.log.disk image left) c.requires.known
