use Rattle.event_codec.proofs.state.HeaderTake.take.Goals as goal

pub returns-in-Err-clause-outside : goal.returns-in-Err-clause-outside
returns-in-Err-clause-outside c =
    λ is v rest f e. c.in-Err.ensures.outside is (
      v.id,
      (v.client, (v.size, (v.received, (v.next_counter, v.phase)))),
    ) rest f e
