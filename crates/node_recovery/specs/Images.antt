-- What an image of a node's disk stands for, and when it can be recovered.
use Rattle.std.specs.Prelude.{ℕ, List, IfSome, IsSome, option_and_then, Option}
use Rattle.checkpoint.specs.Halves.{layout_of}
use Rattle.event_log.specs.Meaning.{current, meaning}
use Rattle.event_log.specs.Holds.{CanOpen}
use Rattle.pm_types.specs.Stored.{State}
use Rattle.event_codec.specs.DecidingRecords.{record_told}
use Rattle.event_codec.specs.DecidingStates.{state_told}
use Rattle.node_recovery.specs.Deciding.{after_record}

-- the state after the record that these bytes spell; none where they spell none, or one that isn't allowed
abbrev pub after_bytes : State → List ℕ → Option State
after_bytes s bytes = option_and_then (after_record s) (record_told bytes)

-- the stored state: of the half of halves 2 and 3 that counts the state that its text tells, after the records in its
-- journal
abbrev pub stored_in : List ℕ → Option State
stored_in image = meaning state_told after_bytes (layout_of 2) image

-- where a half counts, its journal goes on behind its records, and each of these is allowed at its place
pub record CanRecover (image : List ℕ) : Type 0 where
  pub opens : CanOpen state_told (layout_of 2) image
  pub allowed : IfSome (current state_told (layout_of 2) image) (λ half. IsSome (stored_in image))

-- the most bytes of a state's text
abbrev pub state_longest : ℕ
state_longest = 524288
