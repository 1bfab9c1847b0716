use Rattle.std.proofs.Common.{ap, inl, subst, Err, Option, Some}
use Rattle.disk_core.proofs.Moments.{started}
use Rattle.checkpoint.specs.declared.fault.StoreError.{StoreError}
use Rattle.campaign_core.specs.declared.events.MasterEvent.{MasterEvent}
use Rattle.campaign_core.specs.declared.fold.Fold.{Fold}
use Rattle.decision_log.specs.Known.{IsBeforeOrAfter, IsKnown}
use Rattle.decision_log.proofs.Known.{doubt_is, now_is}
use Rattle.decision_log.proofs.list.MasterLog.add.Goals as goal

pub returns-in-Some-clause-any_moment : goal.returns-in-Some-clause-any_moment
returns-in-Some-clause-any_moment g c =
    let d = g.D.Disk in
    let old = c.args.self.now in
    let known = subst (λ (o : Option MasterEvent). IsKnown old.log old.campaign.fold o (d.seen old.disk)
    (d.images old.disk)) c.requires.open c.requires.known in
    started d.moment d.left_since old.disk (IsBeforeOrAfter old.campaign.fold c.args.event) (λ x left.
    inl (now_is old.log old.campaign.fold (d.seen old.disk) (d.images old.disk) x known
    (g.met.D.Disk.only_now old.disk x left)))

pub returns-in-Err-Failed-clause-in_doubt : goal.returns-in-Err-Failed-clause-in_doubt
returns-in-Err-Failed-clause-in_doubt g c pending x now =
    let d = g.D.Disk in
    let log = c.record.new.self.log in
    let disk = c.record.new.self.disk in
    let fold = c.args.self.now.campaign.fold in
    let known = subst (λ (f : Fold). IsKnown log f (Some c.args.event) (d.seen disk) (d.images disk))
    c.in-Err-Failed.ensures.same (c.in-Err-Failed.ensures.in_doubt (ap (λ (e : StoreError). Err e)
    c.in-Err-Failed.field-0-is)) in
    doubt_is log fold c.args.event (d.seen disk) (d.images disk) x known now
