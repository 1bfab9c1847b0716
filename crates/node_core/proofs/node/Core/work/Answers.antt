use Rattle.node_core.proofs.Names.{after_work, answer_to, ap, node_of, state_worked, under, ◌∙◌}
use Rattle.node_core.proofs.Owned.{held-is, work-reserved-is}
use Rattle.node_core.proofs.node.Core.work.Goals as goal

pub returns-clause-answer : goal.returns-clause-answer
returns-clause-answer g c =
    (c.work.ensures.worked (g.S.Staging.areas c.self.inside.staging) c.self.invariant.0
    (work-reserved-is c.self.view_is c.requires.reserved)).answer
    ∙ ap (λ h. answer_to c.args.fails.now (node_of h)) (held-is c.self.view_is)

pub returns-clause-node : goal.returns-clause-node
returns-clause-node g c =
    (c.work.ensures.worked (g.S.Staging.areas c.self.inside.staging) c.self.invariant.0
    (work-reserved-is c.self.view_is c.requires.reserved)).node
    ∙ ap (λ h. after_work c.args.fails.now (node_of h)) (held-is c.self.view_is)

pub returns-clause-state : goal.returns-clause-state
returns-clause-state g c =
    c.work.ensures.state ∙ ap (λ h. state_worked (under h) c.work.result) (held-is c.self.view_is)
