use Rattle.std.proofs.Common.{Some, sym, ◌∙◌, ap, subst}
use Rattle.std.proofs.lemmas.Result.{err_from_is_err_and}
use Rattle.disk_core.proofs.Moments.{started}
use Rattle.event_log.specs.Holds.{Holds}
use Rattle.event_log.specs.Doubts.{MaySwitch, of_event, ended}
use Rattle.event_log.specs.declared.revive.Revived.{Revived}
use Rattle.campaign_core.specs.declared.fold.Fold.{Fold}
use Rattle.campaign_core.specs.Campaign.{after_event}
use Rattle.event_codec.specs.DecidingMaster.{fold_of}
use Rattle.decision_log.specs.Folds.{after_record}
use Rattle.decision_log.specs.Known.{IsBeforeOrAfter}
use Rattle.decision_log.proofs.Known.{added_known, doubt_is, doubt_known, moved, not_both}
use Rattle.decision_log.proofs.list.MasterLog.settle.Goals as goal

pub returns-in_err-text-clause-any_moment : goal.returns-in_err-text-clause-any_moment
returns-in_err-text-clause-any_moment g c =
    let d = g.D.Disk in
    let old = c.args.self.now in
    started d.moment d.left_since old.disk (IsBeforeOrAfter old.campaign.fold c.args.event.now) (λ x left.
    doubt_is old.log old.campaign.fold c.args.event.now (d.seen old.disk) (d.images old.disk) x c.requires.known
    (g.met.D.Disk.only_now old.disk x left))

pub returns-in_err-revive-clause-in_doubt : goal.returns-in_err-revive-clause-in_doubt
returns-in_err-revive-clause-in_doubt g c =
    let d = g.D.Disk in
    let disk = c.revive.new.disk in
    let p = err_from_is_err_and c.from_residual-in_err-revive.result c.from_residual-in_err-revive.ensures.1 in
    rw p.1
    (doubt_known c.revive.new.self c.args.self.now.campaign.fold c.spelled.new.campaign.fold c.of-present.result
    c.args.event.now c.deref.result.now (d.seen disk) (d.images disk)
    (c.revive.ensures.pair ∙ c.requires.known.pair) c.requires.known.within c.requires.known.stand.0
    c.in_ok-text.ensures.fits (c.deref.ensures.value ∙ c.in_ok-text.ensures.text) c.spelled.ensures.fold
    (c.of-present.ensures ∙ c.fold.ensures ∙ c.spelled.ensures.fold) c.in_err-revive.ensures.in_doubt)

pub returns-in_err-revive-clause-any_moment : goal.returns-in_err-revive-clause-any_moment
returns-in_err-revive-clause-any_moment g c =
    let d = g.D.Disk in
    let old = c.args.self.now in
    moved d.moment d.left_since old.disk c.revive.new.disk old.log old.campaign.fold c.of-present.result
    c.args.event.now c.deref.result.now c.requires.known.pair c.requires.known.stand.0 c.in_ok-text.ensures.fits
    (c.deref.ensures.value ∙ c.in_ok-text.ensures.text) (c.of-present.ensures ∙ c.fold.ensures ∙ c.spelled.ensures.fold)
    c.revive.ensures.any_moment

pub returns-in-Stood-clause-known : goal.returns-in-Stood-clause-known
returns-in-Stood-clause-known g c =
    let d = g.D.Disk in
    let old = c.args.self.now in
    let disk = c.revive.new.disk in
    added_known c.revive.new.self old.campaign.fold c.apply.new.self.fold c.of-present.result c.args.event.now
    c.deref.result.now (d.seen disk) (d.images disk) (c.revive.ensures.pair ∙ c.requires.known.pair)
    c.requires.known.within c.requires.known.stand.0 c.in_ok-text.ensures.fits
    (c.deref.ensures.value ∙ c.in_ok-text.ensures.text)
    (c.in-Ok.ensures.ok ∙ ap (λ (f : Fold). after_event f c.args.event.now) c.spelled.ensures.fold)
    (c.of-present.ensures ∙ c.fold.ensures ∙ c.spelled.ensures.fold)
    (λ x now. subst (λ (r : Revived). Holds fold_of after_record c.revive.new.self
    (ended r (of_event after_record c.of-present.result c.deref.result.now)) x) c.in-Stood.is
    (c.in_ok-revive.ensures.decided x now)) c.in_ok-revive.ensures.durable

pub returns-in-Stood-clause-settled : goal.returns-in-Stood-clause-settled
returns-in-Stood-clause-settled g c = sym c.in_ok-revive.ensures.settled ∙ c.in-Stood.is

pub returns-in-Stood-clause-lost : goal.returns-in-Stood-clause-lost
returns-in-Stood-clause-lost g c may =
    let old = c.args.self.now in
    absurd (not_both c.in_ok-revive.field-0 c.in-Stood.is (c.in_ok-revive.ensures.lost (λ x now.
    subst (λ (f : Fold). MaySwitch fold_of after_record old.log (Some f) x)
    (sym (c.of-present.ensures ∙ c.fold.ensures ∙ c.spelled.ensures.fold)) (may x now))))

pub returns-in-Stood-clause-any_moment : goal.returns-in-Stood-clause-any_moment
returns-in-Stood-clause-any_moment g c =
    let d = g.D.Disk in
    let old = c.args.self.now in
    moved d.moment d.left_since old.disk c.revive.new.disk old.log old.campaign.fold c.of-present.result
    c.args.event.now c.deref.result.now c.requires.known.pair c.requires.known.stand.0 c.in_ok-text.ensures.fits
    (c.deref.ensures.value ∙ c.in_ok-text.ensures.text) (c.of-present.ensures ∙ c.fold.ensures ∙ c.spelled.ensures.fold)
    c.revive.ensures.any_moment

pub returns-clause-any_moment : goal.returns-clause-any_moment
returns-clause-any_moment g c =
    let d = g.D.Disk in
    let old = c.args.self.now in
    moved d.moment d.left_since old.disk c.revive.new.disk old.log old.campaign.fold c.of-present.result
    c.args.event.now c.deref.result.now c.requires.known.pair c.requires.known.stand.0 c.in_ok-text.ensures.fits
    (c.deref.ensures.value ∙ c.in_ok-text.ensures.text) (c.of-present.ensures ∙ c.fold.ensures ∙ c.spelled.ensures.fold)
    c.revive.ensures.any_moment
