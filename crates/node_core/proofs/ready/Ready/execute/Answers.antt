use Rattle.node_core.proofs.Names.{State, ap, arith, kept_by, ◌∙◌}
use Rattle.node_core.proofs.Executed.{same-entries}
use Rattle.node_core.proofs.ready.Ready.execute.Goals as goal

pub overflow_add-state : goal.overflow_add-state
overflow_add-state c =
    let w = c.args.self.now in
    let same = ap (λ (s : State). s.entries) (c.state.view_is ∙ ap (λ r. r.state) c.self.view_is
    ∙ c.answer_with.ensures)
    ∙ same-entries (kept_by w) w.state c.args.client c.args.call.now c.args.reply.now in
    let few = c.requires.entries in
    omega (arith, same, few)

pub returns-clause-entries : goal.returns-clause-entries
returns-clause-entries c =
    let w = c.args.self.now in
    let same = ap (λ (s : State). s.entries) (c.state.view_is ∙ ap (λ r. r.state) c.self.view_is
    ∙ c.answer_with.ensures)
    ∙ same-entries (kept_by w) w.state c.args.client c.args.call.now c.args.reply.now in
    omega (arith, same)
