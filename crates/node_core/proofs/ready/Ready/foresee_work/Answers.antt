use Rattle.node_core.proofs.Names.{Readied, ap, node_of, over, sym, unit_passes, ◌∙◌}
use Rattle.node_core.proofs.UnitsDone.{foreseen}
use Rattle.node_core.proofs.ready.Ready.foresee_work.Goals as goal

pub returns-in-Some-clause-answer : goal.returns-in-Some-clause-answer
returns-in-Some-clause-answer c = λ areas sound ready.
    foreseen (over areas c.args.self.now) c.args.fails.now c.unit_passes-passed.result sound ready
    (c.unit_passes-passed.ensures areas
    ∙ ap (λ (r : Readied). unit_passes c.args.fails.now (node_of (over areas r))) c.self.view_is) _
    (sym c.in-Some.is ∙ c.status_after.ensures)
