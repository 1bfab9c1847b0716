use Rattle.node_core.proofs.Names.{None, sym, ◌∙◌}
use Rattle.node_core.proofs.Refused.{cancel-by}
use Rattle.node_core.proofs.ready.Ready.cancel_refusal.Goals as goal

pub returns-in-None : goal.returns-in-None
returns-in-None c = λ areas.
    cancel-by c.self.view_is c.args.client areas None c.cancel_refusal.result c.args.id
    (sym c.in-None.is ∙ c.session_refusal-refused.ensures) c.cancel_refusal.ensures
