use Rattle.event_codec.specs.Outside.{no_process}
use Rattle.event_codec.proofs.calls.take_process.Goals as goal

pub returns-in-Err-clause-outside : goal.returns-in-Err-clause-outside
returns-in-Err-clause-outside c = λ is. no_process c.args.bytes.now (c.in-Err.ensures.outside is)
