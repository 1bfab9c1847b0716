use Rattle.node_core.proofs.Names.{Some, ap, arith, option_map, over, sym, ◌∙◌}
use Rattle.node_core.proofs.Accepted.{table-within}
use Rattle.node_core.proofs.Lastly.{has-room, next-fits, not-lost}
use Rattle.node_core.proofs.Opened.{within}
use Rattle.node_core.proofs.ready.Ready.process_unit.Goals as goal

pub returns-in_default-stored : goal.returns-in_default-stored
returns-in_default-stored c =
    absurd (not-lost (ap (over c.requires.reserved.0) (within c.state.view_is c.self.view_is)) _
    c.in-Some-processing.id c.in-Some-processing.is (c.in-Some.is ∙ ap Some (sym c.session.view_is))
    c.requires.reserved.1 c.requires.reserved.2 c.requires.status
    (sym c.stored.ensures ∙ ap (option_map _) c.in_default-stored.is))

pub overflow_add-session : goal.overflow_add-session
overflow_add-session c =
    let left = next-fits (ap (over c.requires.reserved.0) (within c.state.view_is c.self.view_is)) _
    c.in-Some-processing.id c.in-Some-processing.is (c.in-Some.is ∙ ap Some (sym c.session.view_is))
    c.requires.reserved.1 c.requires.reserved.2 c.requires.status c.in-Some-stored.transfer.now
    (sym c.stored.ensures ∙ ap (option_map _) c.in-Some-stored.is) in
    omega (arith, left, c.units-units.ensures.few, c.units-units.ensures.units)

pub append-requires : goal.append-requires
append-requires c =
    has-room (ap (over c.requires.reserved.0) (within c.state.view_is c.self.view_is)) _
    c.in-Some-processing.id c.in-Some-processing.is (c.in-Some.is ∙ ap Some (sym c.session.view_is))
    c.requires.reserved.1 c.requires.reserved.2 c.requires.status c.in-Some-stored.transfer.now
    (sym c.stored.ensures ∙ ap (option_map _) c.in-Some-stored.is)
    (omega (arith, c.if-from-units.false, c.from.ensures, c.units-units.ensures.units))
    c.in-Some-take_changes.changes.items (sym c.take_changes.ensures ∙ ap (option_map _) c.in-Some-take_changes.is)

pub set_phase-requires : goal.set_phase-requires
set_phase-requires c =
    record { table = table-within (within c.state.view_is c.self.view_is) c.requires.reserved.0 c.requires.reserved.1 }
