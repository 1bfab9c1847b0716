use Rattle.event_codec.specs.OutsideMaster.{no_begin}
use Rattle.event_codec.proofs.campaigns.take_begin.Goals as goal

pub returns-in-Err-clause-outside : goal.returns-in-Err-clause-outside
returns-in-Err-clause-outside c = λ is. no_begin c.args.bytes.now (c.in-Err.ensures.outside is)
