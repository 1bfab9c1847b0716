use Rattle.node_core.proofs.Names.{IsReady, TransferData, ap, over, refusal_by, subst, sym, ◌∙◌}
use Rattle.node_core.proofs.Opened.{within}
use Rattle.node_core.proofs.Refused.{block-by, delete-by}
use Rattle.node_core.proofs.ready.Ready.refusal.Goals as goal

pub returns-in-TransferData : goal.returns-in-TransferData
returns-in-TransferData c = λ areas sound ready.
    block-by (within c.state.view_is c.self.view_is) c.args.client areas c.in-TransferData.id c.in-TransferData.counter
    c.as_slice.result.now c.block_refusal.result c.block_refusal.ensures
    ∙ ap (refusal_by (over areas c.args.self.now) c.args.client)
    (ap (TransferData c.in-TransferData.id c.in-TransferData.counter) c.as_slice.ensures.bytes
    ∙ sym c.in-TransferData.is)

pub returns-in-TransferExit : goal.returns-in-TransferExit
returns-in-TransferExit c = λ areas sound ready.
    c.exit_refusal.ensures areas sound
    (subst (IsReady (over areas c.args.self.now) c.args.client) c.in-TransferExit.is ready)
    ∙ ap (refusal_by (over areas c.args.self.now) c.args.client) (sym c.in-TransferExit.is)

pub returns-in-DeleteTransfer : goal.returns-in-DeleteTransfer
returns-in-DeleteTransfer c = λ areas sound ready.
    delete-by (within c.state.view_is c.self.view_is) c.args.client areas c.in-DeleteTransfer.id
    c.delete_refusal.result c.delete_refusal.ensures
    ∙ ap (refusal_by (over areas c.args.self.now) c.args.client) (sym c.in-DeleteTransfer.is)

pub returns-in-Activate : goal.returns-in-Activate
returns-in-Activate c = λ areas sound ready.
    c.activate_refusal.ensures areas sound
    (subst (IsReady (over areas c.args.self.now) c.args.client) c.in-Activate.is ready)
    ∙ ap (refusal_by (over areas c.args.self.now) c.args.client) (sym c.in-Activate.is)
