use Rattle.std.proofs.Common.{◌∙◌, ◌==◌, ap, filter, not, rules, tests}
use Rattle.std.proofs.lemmas.Fn.{filter_same}
use Rattle.pm_types.specs.declared.state.StoredTransfer.{StoredTransfer}
use Rattle.pm_types.proofs.state.TransferList.remove.Goals as goal

pub returns : goal.returns
returns c =
    filter_same _ (λ (t : StoredTransfer). not (t.header.id == c.args.id)) _ (λ x b f k. search (rules, tests)) _ _
    c.retain.ensures.filtered
    ∙ ap (filter (λ (t : StoredTransfer). not (t.header.id == c.args.id))) c.self.view_is
