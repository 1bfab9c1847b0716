use Rattle.std.proofs.Common.{◌≡◌, drop, Some}
use Rattle.event_log.specs.Meaning.{after_all, state_of}
use Rattle.event_codec.specs.DecidingMaster.{fold_of}
use Rattle.decision_log.specs.Folds.{after_record}
use Rattle.decision_log.proofs.start.folded.Given as goal

abbrev pub invariant-loop-record : goal.invariant-loop-record
invariant-loop-record l = after_all after_record (Some l.campaign.fold) (drop l.record-index l.records)
    ≡ state_of fold_of after_record l.text l.records
