use Rattle.event_codec.proofs.master.CurrentTake.take.Goals as goal

pub returns-in-Err-clause-outside : goal.returns-in-Err-clause-outside
returns-in-Err-clause-outside c =
    λ is v rest f e. c.in-Err.ensures.outside is (
      v.campaign,
      (v.named, (record { phase = v.phase }, (v.votes, (v.cancel, (v.restart, (v.decision, v.ended)))))),
    ) rest f e
