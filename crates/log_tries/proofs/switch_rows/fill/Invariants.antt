use Rattle.std.proofs.Common.{◌≡◌, None}
use Rattle.decision_log.specs.Known.{IsKnown}
use Rattle.log_tries.proofs.switch_rows.fill.Given as goal

abbrev pub invariant-starts : goal.invariant-starts
invariant-starts g l =
    let log = l.log in
    IsKnown log.log log.campaign.fold log.pending (g.D.Disk.seen log.disk) (g.D.Disk.images log.disk)
    × (log.pending ≡ None) × (g.D.Disk.armed log.disk ≡ g.D.Disk.armed l.initial.log.disk)
