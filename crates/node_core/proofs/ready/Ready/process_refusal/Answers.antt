use Rattle.node_core.proofs.Names.{None, sym, ◌∙◌}
use Rattle.node_core.proofs.Refused.{process-by}
use Rattle.node_core.proofs.ready.Ready.process_refusal.Goals as goal

pub returns-in-None : goal.returns-in-None
returns-in-None c = λ areas sound.
    process-by c.self.view_is c.args.client areas None c.package_refusal.result c.args.id c.args.tag
    (sym c.in-None.is ∙ c.session_refusal-refused.ensures) c.package_refusal.ensures sound
