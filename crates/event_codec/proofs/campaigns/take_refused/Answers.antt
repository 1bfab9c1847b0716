use Rattle.event_codec.specs.OutsideMaster.{no_refused}
use Rattle.event_codec.proofs.campaigns.take_refused.Goals as goal

pub returns-in-Err-clause-outside : goal.returns-in-Err-clause-outside
returns-in-Err-clause-outside c = λ is. no_refused c.args.bytes.now (c.in-Err.ensures.outside is)
