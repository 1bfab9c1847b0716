use Rattle.node_core.proofs.Names.{TransferData, accept, ap, kept_by, subst, sym, ◌∙◌, ◌≡◌}
use Rattle.node_core.proofs.ready.Ready.accept.Goals as goal

pub returns-in-TransferData : goal.returns-in-TransferData
returns-in-TransferData c =
    let w = c.args.self.now in
    subst (λ call. c.take_block.new.self.state ≡ accept (kept_by w) w.state c.args.client call)
    (ap (TransferData c.in-TransferData.id c.in-TransferData.counter) c.as_slice.ensures.bytes
    ∙ sym c.in-TransferData.is) c.take_block.ensures
