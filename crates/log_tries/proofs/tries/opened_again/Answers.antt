use Rattle.std.proofs.Common.{Option, sym, subst}
use Rattle.checkpoint.specs.Halves.{HasPair, layout_of}
use Rattle.campaign_core.specs.declared.events.MasterEvent.{MasterEvent}
use Rattle.decision_log.specs.Known.{IsKnown}
use Rattle.decision_log.specs.Left.{MayOpen}
use Rattle.decision_log.proofs.Known.{now_is}
use Rattle.decision_log.proofs.Left.{may_open}
use Rattle.log_tries.proofs.tries.opened_again.Goals as goal

pub open-requires-clause-size : goal.open-requires-clause-size
open-requires-clause-size g c =
    let d = g.D.Disk in
    let log = c.args.log in
    let known = subst (λ (o : Option MasterEvent). IsKnown log.log log.campaign.fold o (d.seen log.disk)
    (d.images log.disk)) c.requires.open c.requires.known in
    let stands = now_is log.log log.campaign.fold (d.seen log.disk) (d.images log.disk) (d.seen log.disk) known
    (g.met.D.Disk.reads_as_image log.disk) in
    subst (λ (disk : g.row.D.Denot). HasPair (layout_of 0) (d.seen disk)) (sym c.close.ensures) stands.size

pub open-requires-clause-left : goal.open-requires-clause-left
open-requires-clause-left g c =
    let d = g.D.Disk in
    let log = c.args.log in
    let known = subst (λ (o : Option MasterEvent). IsKnown log.log log.campaign.fold o (d.seen log.disk)
    (d.images log.disk)) c.requires.open c.requires.known in
    let stands = now_is log.log log.campaign.fold (d.seen log.disk) (d.images log.disk) (d.seen log.disk) known
    (g.met.D.Disk.reads_as_image log.disk) in
    subst (λ (disk : g.row.D.Denot). MayOpen (d.seen disk)) (sym c.close.ensures)
    (may_open (d.seen log.disk) log.campaign.fold known.within stands)
