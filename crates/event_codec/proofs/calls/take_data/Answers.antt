use Rattle.event_codec.specs.Outside.{no_data}
use Rattle.event_codec.proofs.calls.take_data.Goals as goal

pub returns-in-Err-clause-outside : goal.returns-in-Err-clause-outside
returns-in-Err-clause-outside c = λ is. no_data c.args.bytes.now (c.in-Err.ensures.outside is)
