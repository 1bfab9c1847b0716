use Rattle.event_codec.proofs.state.SessionTake.take.Goals as goal

pub returns-in-Err-clause-outside : goal.returns-in-Err-clause-outside
returns-in-Err-clause-outside c =
    λ is v rest f e. c.in-Err.ensures.outside is (
      v.owner,
      (v.tag, (v.saved, (v.changes, (record { id = v.processing }, (v.units_done, (v.verified, v.outcome)))))),
    ) rest f e
