use Rattle.event_codec.specs.UniqueMaster.{unique-event}
use Rattle.event_codec.specs.Deciding.{taken_ok}
use Rattle.event_codec.specs.DecidingMaster.{event_of, tells-event}
use Rattle.event_codec.proofs.whole.take_event.Goals as goal

pub returns-clause-read : goal.returns-clause-read
unfolding event_of
returns-clause-read c =
    taken_ok unique-event c.args.bytes.now c.take_whole.result (tells-event c.args.bytes.now) c.take_whole.ensures
