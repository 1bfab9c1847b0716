use Rattle.event_codec.proofs.clusters.NeedTake.take.Goals as goal

pub returns-in-Err-clause-outside : goal.returns-in-Err-clause-outside
returns-in-Err-clause-outside c = λ is v rest f e. c.in-Err.ensures.outside is (v.name, v.req) rest f e
