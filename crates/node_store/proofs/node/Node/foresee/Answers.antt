use Rattle.std.proofs.Common.{◌≡◌, subst}
use Rattle.slot_store.specs.Extents.{held_in, node_places}
use Rattle.node_store.specs.Serving.{stepped}
use Rattle.node_store.proofs.node.Node.foresee.Goals as goal

pub returns-clause-reached : goal.returns-clause-reached
returns-clause-reached g c =
    let seen = g.D.Disk.seen c.stage.new.self.extents.disk in
    subst (λ k. c.foresee.result ≡ (stepped k c.args.client c.args.no c.args.call.now).1) c.stage.ensures.node
    (c.foresee.ensures (held_in node_places seen) c.in_ok-stage.ensures.known.sound c.in_ok-stage.ensures.reserved)
