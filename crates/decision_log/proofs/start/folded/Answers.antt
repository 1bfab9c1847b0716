use Rattle.std.proofs.Common.{Option, sym, ◌∙◌, ap}
use Rattle.event_log.specs.Meaning.{after_all}
use Rattle.campaign_core.specs.declared.events.MasterEvent.{MasterEvent}
use Rattle.campaign_core.specs.declared.fold.Fold.{Fold}
use Rattle.decision_log.specs.Folds.{after_allowed, after_one, after_record}
use Rattle.decision_log.proofs.Records.{after_none, stops, refuses, event_record}
use Rattle.decision_log.proofs.start.folded.Goals as goal

pub returns-in_default : goal.returns-in_default
returns-in_default c =
    ap (λ (o : Option Fold). after_all after_record o c.args.records.now)
    (sym c.in_ok-fold.ensures.read ∙ c.in_default.is) ∙ after_none c.args.records.now

pub returns-in_default-2 : goal.returns-in_default-2
returns-in_default-2 c =
    sym c.loop-record.invariant
    ∙ stops c.loop-record.campaign.fold c.args.records.now c.loop-record.record-index c.record-item.result
    c.as_slice.result.now c.loop-record-test.true c.record-item.is c.as_slice.ensures
    (ap (λ (o : Option MasterEvent). after_one c.loop-record.campaign.fold o)
    (sym c.in_ok-event.ensures.read ∙ c.in_default-2.is))

pub returns-then-is_err : goal.returns-then-is_err
returns-then-is_err c =
    let event = c.in-Some-2.event in
    sym c.loop-record.invariant
    ∙ stops c.loop-record.campaign.fold c.args.records.now c.loop-record.record-index c.record-item.result
    c.as_slice.result.now c.loop-record-test.true c.record-item.is c.as_slice.ensures
    (event_record c.loop-record.campaign.fold c.as_slice.result.now event
    (sym c.in_ok-event.ensures.read ∙ c.in-Some-2.is)
    ∙ ap (λ (f : Fold). after_allowed f event) (sym c.in_ok-reserve.ensures.fold)
    ∙ refuses c.reserve.new.self.fold event c.apply.result (sym c.is_err.ensures.value ∙ c.if-is_err.true)
    c.apply.ensures.answer)
