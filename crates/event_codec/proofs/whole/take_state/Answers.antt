use Rattle.event_codec.specs.UniqueStates.{unique-state}
use Rattle.event_codec.specs.Deciding.{taken_ok}
use Rattle.event_codec.specs.DecidingStates.{state_told, tells-state}
use Rattle.event_codec.proofs.whole.take_state.Goals as goal

pub returns-clause-read : goal.returns-clause-read
unfolding state_told
returns-clause-read c =
    taken_ok unique-state c.args.bytes.now c.take_whole.result (tells-state c.args.bytes.now) c.take_whole.ensures
