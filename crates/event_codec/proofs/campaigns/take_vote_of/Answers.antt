use Rattle.event_codec.specs.OutsideMaster.{no_vote_of}
use Rattle.event_codec.proofs.campaigns.take_vote_of.Goals as goal

pub returns-in-Err-clause-outside : goal.returns-in-Err-clause-outside
returns-in-Err-clause-outside c = λ is. no_vote_of c.args.bytes.now (c.in-Err.ensures.outside is)
