use Rattle.event_codec.specs.Outside.{no_numbered}
use Rattle.event_codec.proofs.lines.take_numbered.Goals as goal

pub returns-in-Err-clause-outside : goal.returns-in-Err-clause-outside
returns-in-Err-clause-outside c = λ is. no_numbered c.args.bytes.now (c.in-Err.ensures.outside is)
