-- What is put is told again.
use Rattle.std.proofs.Common.{◌≡◌, Some, refl}
use Rattle.pm_types.specs.Stored.{State}
use Rattle.event_codec.specs.Deciding.{is_whole}
use Rattle.event_codec.specs.DecidingStates.{state_told, tells-state}
use Rattle.event_codec.specs.States.{StateFits, state_spelled}
use Rattle.event_codec.specs.UniqueStates.{unique-state}

pub state_back : (s : State) → StateFits s → state_told (state_spelled s) ≡ Some s
unfolding state_told
state_back s fits = is_whole unique-state (state_spelled s) s (tells-state (state_spelled s)) fits refl
