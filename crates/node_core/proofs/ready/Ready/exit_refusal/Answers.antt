use Rattle.node_core.proofs.Names.{None, Some, sym, refl, ◌∙◌}
use Rattle.node_core.proofs.Opened.{within}
use Rattle.node_core.proofs.Refused.{exit-by}
use Rattle.node_core.proofs.ready.Ready.exit_refusal.Goals as goal

pub returns-in-Some : goal.returns-in-Some
returns-in-Some c = λ areas sound ready.
    exit-by (within c.state.view_is c.self.view_is) c.args.client areas (Some c.in-Some.refusal) _ c.args.id
    (sym c.in-Some.is ∙ c.exit_refusal.ensures) refl ready

pub returns-in-None : goal.returns-in-None
returns-in-None c = λ areas sound ready.
    exit-by (within c.state.view_is c.self.view_is) c.args.client areas None c.bad.result c.args.id
    (sym c.in-None.is ∙ c.exit_refusal.ensures) c.bad.ensures ready
