use Rattle.node_core.proofs.Names.{Readied, ap, node_of, over, sym, unit_passes, unit_stored, with_entry}
use Rattle.node_core.proofs.Names.{UnitAfter, ◌∙◌}
use Rattle.node_core.proofs.UnitsDone.{done-is, worked-unit}
use Rattle.node_core.proofs.ready.Ready.work.Goals as goal

pub returns-clause-worked : goal.returns-clause-worked
returns-clause-worked c = λ areas sound ready.
    let done = done-is (unit_stored c.args.self.now c.unit_passes-passed.result) c.in-Some.after
    c.do_unit.new.self.state (sym c.in-Some.is ∙ c.status_after.ensures) c.do_unit.ensures in
    worked-unit (over areas c.args.self.now) c.args.fails.now sound ready c.unit_passes-passed.result
    (c.unit_passes-passed.ensures areas
    ∙ ap (λ (r : Readied). unit_passes c.args.fails.now (node_of (over areas r))) c.self.view_is)
    c.do_unit.new.self.state done.0 c.in-Some.after done.1 c.enter.new.state
    (c.enter.ensures ∙ ap (λ (r : Readied). with_entry (UnitAfter r.state.status) r.state) c.self-2.view_is)
    c.self-2.inside.prepared
