use Rattle.event_codec.specs.Outside.{no_fields}
use Rattle.event_codec.proofs.records.take_called.Goals as goal

pub returns-in-Err-clause-outside : goal.returns-in-Err-clause-outside
returns-in-Err-clause-outside c =
    λ is. no_fields c.args.bytes.now (λ t rest f e. c.in-Err.ensures.outside is t rest f e)
