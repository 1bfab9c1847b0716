use Rattle.node_core.proofs.Names.{Readied, Some, activate_refusal, ap, over, ◌∙◌}
use Rattle.node_core.proofs.Begun.{unmet-same}
use Rattle.node_core.proofs.ready.Ready.look.Goals as goal

pub returns : goal.returns
returns c = λ areas sound none.
    ap Some (c.in_ok-why.ensures ∙ ap (λ (r : Readied). activate_refusal r.state) c.self.view_is
    ∙ unmet-same (over areas c.args.self.now))
