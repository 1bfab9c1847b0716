use Rattle.event_codec.specs.UniqueMaster.{unique-event, unique-fold}
use Rattle.event_codec.specs.UniqueRecords.{unique-record}
use Rattle.event_codec.specs.UniqueStates.{unique-state}
use Rattle.event_codec.proofs.whole.no_spelling_begins_another.Goals as goal

pub returns-clause-records : goal.returns-clause-records
returns-clause-records c = unique-record

pub returns-clause-states : goal.returns-clause-states
returns-clause-states c = unique-state

pub returns-clause-events : goal.returns-clause-events
returns-clause-events c = unique-event

pub returns-clause-folds : goal.returns-clause-folds
returns-clause-folds c = unique-fold
