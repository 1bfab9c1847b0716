use Rattle.std.proofs.Common.{◌≡◌, subst}
use Rattle.std.specs.Prelude.{IfOk, OnOk}
use Rattle.node_core.specs.Units.{after_work, answer_to}
use Rattle.node_store.specs.Serving.{node_on}
use Rattle.node_store.proofs.Steps.{then_either}
use Rattle.node_store.proofs.node.Node.step_work.Goals as goal

pub returns-in-Unit-clause-any_moment : goal.returns-in-Unit-clause-any_moment
returns-in-Unit-clause-any_moment g c =
    let d = g.D.Disk in
    then_either d.moment d.left_since c.args.self.now.extents.disk c.foresee_work.new.self.extents.disk
    c.enter_work.new.self.extents.disk (after_work c.args.fails.now) _ _ c.foresee_work.ensures.node
    c.foresee_work.ensures.any_moment c.enter_work.ensures.any_moment

pub returns-in-Unit-clause-node : goal.returns-in-Unit-clause-node
returns-in-Unit-clause-node g c =
    subst (λ k. OnOk c.enter_work.result (node_on c.enter_work.new.self.ready.state
    (g.D.Disk.seen c.enter_work.new.self.extents.disk) ≡ after_work c.args.fails.now k)) c.foresee_work.ensures.node
    c.enter_work.ensures.node

pub returns-in-Unit-clause-answer : goal.returns-in-Unit-clause-answer
returns-in-Unit-clause-answer g c =
    subst (λ k. IfOk c.enter_work.result (λ worked. worked ≡ answer_to c.args.fails.now k)) c.foresee_work.ensures.node
    c.enter_work.ensures.answer
