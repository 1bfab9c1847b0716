use Rattle.std.proofs.Common.{◌≡◌, ℕ, List, ◌++◌, Some, ◌∙◌, ap}
use Rattle.pm_types.specs.Stored.{State}
use Rattle.event_codec.specs.States.{state_spelled}
use Rattle.event_codec.specs.DecidingStates.{state_told}
use Rattle.node_recovery.proofs.Texts.{state_back}
use Rattle.node_recovery.proofs.present.PresentStored.text.Goals as goal

pub returns-clause-text : goal.returns-clause-text
returns-clause-text c =
    let s = c.self.inside.state.now in
    let items : c.put_state.new.into.items ≡ state_spelled s = c.in_ok-put_state.ensures.appended
    ∙ ap (λ (xs : List ℕ). xs ++ state_spelled s) c.new-text.ensures.items in
    ap state_told items ∙ state_back s c.in_ok-put_state.ensures.form ∙ ap (λ (t : State). Some t) c.self.view_is
