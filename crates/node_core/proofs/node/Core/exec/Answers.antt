use Rattle.node_core.proofs.Names.{ap, step_by, ◌∙◌}
use Rattle.node_core.proofs.Owned.{held-is, reserved-is}
use Rattle.node_core.proofs.node.Core.exec.Goals as goal

pub invariant_of-self : goal.invariant_of-self
invariant_of-self g c = (
  (c.exec.ensures.executed (g.S.Staging.areas c.self.inside.staging) c.self.invariant.0
      (reserved-is c.self.view_is c.args.client c.args.no c.args.call.now c.requires.reserved)).sound,
  c.self.invariant.1,
)

pub returns-clause-reached : goal.returns-clause-reached
returns-clause-reached g c =
    (c.exec.ensures.executed (g.S.Staging.areas c.self.inside.staging) c.self.invariant.0
    (reserved-is c.self.view_is c.args.client c.args.no c.args.call.now c.requires.reserved)).reached
    ∙ ap (λ h. (step_by h c.args.client c.args.no c.args.call.now).1) (held-is c.self.view_is)

pub returns-clause-node : goal.returns-clause-node
returns-clause-node g c =
    (c.exec.ensures.executed (g.S.Staging.areas c.self.inside.staging) c.self.invariant.0
    (reserved-is c.self.view_is c.args.client c.args.no c.args.call.now c.requires.reserved)).node
    ∙ ap (λ h. (step_by h c.args.client c.args.no c.args.call.now).0) (held-is c.self.view_is)

pub returns-clause-valid : goal.returns-clause-valid
returns-clause-valid g c =
    (c.exec.ensures.executed (g.S.Staging.areas c.self.inside.staging) c.self.invariant.0
    (reserved-is c.self.view_is c.args.client c.args.no c.args.call.now c.requires.reserved)).sound.fit
