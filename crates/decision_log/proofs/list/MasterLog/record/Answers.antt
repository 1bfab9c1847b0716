use Rattle.std.proofs.Common.{length, ℕ, List, Some, inl, sym, ◌∙◌, ap, subst}
use Rattle.std.proofs.lemmas.Result.{err_from_is_err_and}
use Rattle.disk_core.proofs.Moments.{started}
use Rattle.checkpoint.specs.Halves.{layout_of}
use Rattle.event_log.specs.Doubts.{HasNoRoom, MaySwitch}
use Rattle.campaign_core.specs.declared.fold.Fold.{Fold}
use Rattle.campaign_core.specs.Campaign.{after_event}
use Rattle.event_codec.specs.DecidingMaster.{fold_of}
use Rattle.decision_log.specs.Folds.{after_record}
use Rattle.decision_log.specs.Known.{IsBeforeOrAfter, IsOf}
use Rattle.decision_log.proofs.Known.{added_known, doubt_known, moved, now_is, record_fits, text_fits}
use Rattle.decision_log.proofs.list.MasterLog.record.Goals as goal

pub returns-in_err-text-clause-any_moment : goal.returns-in_err-text-clause-any_moment
returns-in_err-text-clause-any_moment g c =
    let d = g.D.Disk in
    let old = c.args.self.now in
    started d.moment d.left_since old.disk (IsBeforeOrAfter old.campaign.fold c.args.event.now) (λ x left.
    inl (now_is old.log old.campaign.fold (d.seen old.disk) (d.images old.disk) x c.requires.known
    (g.met.D.Disk.only_now old.disk x left)))

pub returns-in_err-text-clause-memory_moment : goal.returns-in_err-text-clause-memory_moment
returns-in_err-text-clause-memory_moment g c memory =
    let d = g.D.Disk in
    let old = c.args.self.now in
    started d.moment d.left_since old.disk (IsOf old.campaign.fold) (λ x left.
    now_is old.log old.campaign.fold (d.seen old.disk) (d.images old.disk) x c.requires.known
    (g.met.D.Disk.only_now old.disk x left))

pub returns-in_err-append-clause-switching : goal.returns-in_err-append-clause-switching
returns-in_err-append-clause-switching g c =
    let old = c.args.self.now in
    let p = err_from_is_err_and c.from_residual-in_err-append.result c.from_residual-in_err-append.ensures.1 in
    rw (p.1, p.2) (λ failed full same x now.
    subst (λ (f : Fold). MaySwitch fold_of after_record old.log (Some f) x)
    (c.of-present.ensures ∙ c.fold.ensures ∙ c.spelled.ensures.fold)
    (c.in_err-append.ensures.switching failed same
    (subst (λ (b : List ℕ). HasNoRoom old.log (length b))
    (sym (c.deref.ensures.value ∙ c.in_ok-text.ensures.text)) full) x now))

pub append-requires-clause-short : goal.append-requires-clause-short
append-requires-clause-short g c =
    record_fits (layout_of c.args.self.now.log.half) c.args.event.now c.deref.result.now c.requires.known.pair
    c.in_ok-text.ensures.fits (c.deref.ensures.value ∙ c.in_ok-text.ensures.text)

pub append-requires-clause-long : goal.append-requires-clause-long
append-requires-clause-long g c = text_fits (layout_of c.args.self.now.log.half) c.requires.known.pair

pub returns-in_err-append-clause-in_doubt : goal.returns-in_err-append-clause-in_doubt
returns-in_err-append-clause-in_doubt g c =
    let d = g.D.Disk in
    let disk = c.append.new.disk in
    let p = err_from_is_err_and c.from_residual-in_err-append.result c.from_residual-in_err-append.ensures.1 in
    rw (p.1, p.2) (λ failed.
    doubt_known c.append.new.self c.args.self.now.campaign.fold c.spelled.new.campaign.fold c.of-present.result
    c.args.event.now c.deref.result.now (d.seen disk) (d.images disk)
    (c.append.ensures.pair ∙ c.requires.known.pair) c.requires.known.within c.requires.allowed
    c.in_ok-text.ensures.fits (c.deref.ensures.value ∙ c.in_ok-text.ensures.text) c.spelled.ensures.fold
    (c.of-present.ensures ∙ c.fold.ensures ∙ c.spelled.ensures.fold) (c.in_err-append.ensures.in_doubt failed))

pub returns-in_err-append-clause-any_moment : goal.returns-in_err-append-clause-any_moment
returns-in_err-append-clause-any_moment g c =
    let d = g.D.Disk in
    let old = c.args.self.now in
    moved d.moment d.left_since old.disk c.append.new.disk old.log old.campaign.fold c.of-present.result
    c.args.event.now c.deref.result.now c.requires.known.pair c.requires.allowed c.in_ok-text.ensures.fits
    (c.deref.ensures.value ∙ c.in_ok-text.ensures.text) (c.of-present.ensures ∙ c.fold.ensures ∙ c.spelled.ensures.fold)
    c.append.ensures.any_moment

pub returns-clause-known : goal.returns-clause-known
returns-clause-known g c =
    let d = g.D.Disk in
    let old = c.args.self.now in
    let disk = c.append.new.disk in
    added_known c.append.new.self old.campaign.fold c.apply.new.self.fold c.of-present.result c.args.event.now
    c.deref.result.now (d.seen disk) (d.images disk) (c.append.ensures.pair ∙ c.requires.known.pair)
    c.requires.known.within c.requires.allowed c.in_ok-text.ensures.fits
    (c.deref.ensures.value ∙ c.in_ok-text.ensures.text)
    (c.in-Ok.ensures.ok ∙ ap (λ (f : Fold). after_event f c.args.event.now) c.spelled.ensures.fold)
    (c.of-present.ensures ∙ c.fold.ensures ∙ c.spelled.ensures.fold) c.in_ok-append.ensures.acknowledged
    c.in_ok-append.ensures.durable

pub returns-clause-any_moment : goal.returns-clause-any_moment
returns-clause-any_moment g c =
    let d = g.D.Disk in
    let old = c.args.self.now in
    moved d.moment d.left_since old.disk c.append.new.disk old.log old.campaign.fold c.of-present.result
    c.args.event.now c.deref.result.now c.requires.known.pair c.requires.allowed c.in_ok-text.ensures.fits
    (c.deref.ensures.value ∙ c.in_ok-text.ensures.text) (c.of-present.ensures ∙ c.fold.ensures ∙ c.spelled.ensures.fold)
    c.append.ensures.any_moment
