use Rattle.event_codec.specs.UniqueMaster.{unique-event, unique-fold}
use Rattle.event_codec.specs.Deciding.{whole_is, is_whole}
use Rattle.event_codec.specs.DecidingMaster.{event_of, fold_of, tells-event, tells-fold}
use Rattle.event_codec.specs.UniqueRecords.{unique-record}
use Rattle.event_codec.specs.UniqueStates.{unique-state}
use Rattle.event_codec.specs.DecidingRecords.{record_told, tells-record}
use Rattle.event_codec.specs.DecidingStates.{state_told, tells-state}
use Rattle.event_codec.proofs.whole.what_is_spelled_is_read.Goals as goal

pub returns-clause-events : goal.returns-clause-events
unfolding event_of
returns-clause-events c bytes event = (
  λ e. whole_is bytes event (tells-event bytes) e,
  λ both. is_whole unique-event bytes event (tells-event bytes) both.0 both.1,
)

pub returns-clause-folds : goal.returns-clause-folds
unfolding fold_of
returns-clause-folds c bytes fold = (
  λ e. whole_is bytes fold (tells-fold bytes) e,
  λ both. is_whole unique-fold bytes fold (tells-fold bytes) both.0 both.1,
)

pub returns-clause-records : goal.returns-clause-records
unfolding record_told
returns-clause-records c bytes r = (
  λ e. whole_is bytes r (tells-record bytes) e,
  λ both. is_whole unique-record bytes r (tells-record bytes) both.0 both.1,
)

pub returns-clause-states : goal.returns-clause-states
unfolding state_told
returns-clause-states c bytes state = (
  λ e. whole_is bytes state (tells-state bytes) e,
  λ both. is_whole unique-state bytes state (tells-state bytes) both.0 both.1,
)
