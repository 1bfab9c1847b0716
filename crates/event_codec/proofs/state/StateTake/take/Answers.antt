use Rattle.event_codec.proofs.state.StateTake.take.Goals as goal

pub returns-in-Err-clause-outside : goal.returns-in-Err-clause-outside
returns-in-Err-clause-outside c =
    λ is v rest f e. c.in-Err.ensures.outside is (
      v.status,
      (
        v.next_id,
        (v.running, (v.transfers, (v.session, (v.last, (v.ended, (record { count = v.entries }, v.lines)))))),
      ),
    )
    rest f e
