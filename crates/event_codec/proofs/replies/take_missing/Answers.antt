use Rattle.event_codec.specs.OutsideMaster.{missing_outside}
use Rattle.event_codec.proofs.replies.take_missing.Goals as goal

pub returns-in-Err-clause-outside : goal.returns-in-Err-clause-outside
returns-in-Err-clause-outside c = λ is. missing_outside c.args.bytes.now (c.in-Err.ensures.outside is)
