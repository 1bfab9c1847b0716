use Rattle.std.proofs.Common.{ap}
use Rattle.node_store.specs.Serving.{node_on}
use Rattle.node_store.proofs.Asked.{untouched_open, untouched_serves}
use Rattle.node_store.proofs.node.Node.arm.Goals as goal

pub returns-clause-known : goal.returns-clause-known
returns-clause-known g c =
    let d = g.D.Disk in let self = c.args.self.now in
    untouched_open d.seen d.images d.moment d.left_since g.met.D.Disk.only_now self.log self.ready self.extents.disk
    c.arm.new.self c.requires.known c.arm.ensures.reads c.arm.ensures.images

pub returns-clause-node : goal.returns-clause-node
returns-clause-node g c = ap (node_on c.args.self.now.ready.state) c.arm.ensures.reads

pub returns-clause-any_moment : goal.returns-clause-any_moment
returns-clause-any_moment g c =
    let d = g.D.Disk in let self = c.args.self.now in
    untouched_serves d.seen d.images d.moment d.left_since g.met.D.Disk.only_now self.log self.ready self.extents.disk
    c.arm.new.self c.requires.known c.arm.ensures.reads c.arm.ensures.images c.arm.ensures.time
