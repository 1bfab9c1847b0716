use Rattle.event_codec.specs.Outside.{no_exit_of_several}
use Rattle.event_codec.proofs.records.take_exited.Goals as goal

pub returns-in-Err-clause-outside : goal.returns-in-Err-clause-outside
returns-in-Err-clause-outside c = λ is. no_exit_of_several c.args.bytes.now (c.in-Err.ensures.outside is)
