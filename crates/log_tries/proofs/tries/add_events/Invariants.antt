use Rattle.std.proofs.Common.{◌≡◌, None}
use Rattle.decision_log.specs.Known.{IsKnown}
use Rattle.log_tries.proofs.tries.add_events.Given as goal

abbrev pub invariant-events : goal.invariant-events
invariant-events g l =
    let log = l.log in
    IsKnown log.log log.campaign.fold log.pending (g.D.Disk.seen log.disk) (g.D.Disk.images log.disk)
    × (log.pending ≡ None)
