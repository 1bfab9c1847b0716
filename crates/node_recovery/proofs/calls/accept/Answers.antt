use Rattle.std.proofs.Common.{[], sym, ◌∙◌, ap}
use Rattle.pm_types.specs.declared.calls.Call.TheVariants as calls
use Rattle.pm_types.specs.Steps.{accept}
use Rattle.transfer_blocks.specs.Table.{with_slots}
use Rattle.node_recovery.specs.Folds.{call_of}
use Rattle.node_recovery.proofs.calls.accept.Goals as goal

pub returns-in-TransferData : goal.returns-in-TransferData
returns-in-TransferData c =
    let s = c.args.state.now in
    c.take_block.ensures
    ∙ ap (λ call. accept (with_slots s.transfers []) s c.args.client (call_of call)) (sym c.in-TransferData.is)

pub returns-in-TransferExit : goal.returns-in-TransferExit
returns-in-TransferExit c =
    let s = c.args.state.now in
    c.exit.ensures
    ∙ ap (λ parts. accept (with_slots s.transfers parts) s c.args.client (calls.TransferExit c.in-TransferExit.id))
    c.none.ensures
    ∙ ap (λ call. accept (with_slots s.transfers []) s c.args.client (call_of call)) (sym c.in-TransferExit.is)
