use Rattle.std.proofs.Common.{◌≡◌, subst}
use Rattle.slot_store.specs.Extents.{held_in, node_places}
use Rattle.node_core.specs.Units.{answer_to}
use Rattle.node_store.proofs.node.Node.foresee_work.Goals as goal

pub returns-clause-worked : goal.returns-clause-worked
returns-clause-worked g c =
    let seen = g.D.Disk.seen c.stage_work.new.self.extents.disk in
    subst (λ k. c.foresee_work.result ≡ answer_to c.args.fails.now k) c.stage_work.ensures.node
    (c.foresee_work.ensures.answer (held_in node_places seen) c.in_ok-stage_work.ensures.known.sound
    c.in_ok-stage_work.ensures.reserved)
