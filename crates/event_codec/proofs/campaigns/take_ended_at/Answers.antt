use Rattle.event_codec.specs.OutsideMaster.{no_ended_at}
use Rattle.event_codec.proofs.campaigns.take_ended_at.Goals as goal

pub returns-in-Err-clause-outside : goal.returns-in-Err-clause-outside
returns-in-Err-clause-outside c = λ is. no_ended_at c.args.bytes.now (c.in-Err.ensures.outside is)
