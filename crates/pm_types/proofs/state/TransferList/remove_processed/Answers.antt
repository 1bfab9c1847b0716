use Rattle.std.proofs.Common.{◌∙◌, ap, filter, rules, tests}
use Rattle.std.proofs.lemmas.Fn.{filter_same}
use Rattle.pm_types.specs.NodeState.{outlasts}
use Rattle.pm_types.specs.declared.state.StoredTransfer.{StoredTransfer}
use Rattle.pm_types.proofs.state.TransferList.remove_processed.Goals as goal

pub returns : goal.returns
returns c =
    filter_same _ (λ (t : StoredTransfer). outlasts t.header) _ (λ x b f k. search (rules, tests)) _ _
    c.retain.ensures.filtered
    ∙ ap (filter (λ (t : StoredTransfer). outlasts t.header)) c.self.view_is
