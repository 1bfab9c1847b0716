use Rattle.event_codec.proofs.state.StoredTransferTake.take.Goals as goal

pub returns-in-Err-clause-outside : goal.returns-in-Err-clause-outside
returns-in-Err-clause-outside c = λ is v rest f e. c.in-Err.ensures.outside is (v.header, (v.slot, v.contents)) rest f e
