use Rattle.event_codec.specs.UniqueMaster.{unique-fold}
use Rattle.event_codec.specs.Deciding.{taken_ok}
use Rattle.event_codec.specs.DecidingMaster.{fold_of, tells-fold}
use Rattle.event_codec.proofs.whole.take_fold.Goals as goal

pub returns-clause-read : goal.returns-clause-read
unfolding fold_of
returns-clause-read c =
    taken_ok unique-fold c.args.bytes.now c.take_whole.result (tells-fold c.args.bytes.now) c.take_whole.ensures
