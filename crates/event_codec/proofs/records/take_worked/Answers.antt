use Rattle.event_codec.specs.Outside.{no_unit}
use Rattle.event_codec.proofs.records.take_worked.Goals as goal

pub returns-in-Err-clause-outside : goal.returns-in-Err-clause-outside
returns-in-Err-clause-outside c = λ is. no_unit c.args.bytes.now (c.in-Err.ensures.outside is)
