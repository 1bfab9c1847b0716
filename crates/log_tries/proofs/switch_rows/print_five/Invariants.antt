use Rattle.std.proofs.Common.{◌≡◌, None}
use Rattle.decision_log.specs.Known.{IsKnown}
use Rattle.log_tries.proofs.switch_rows.print_five.Given as goal

abbrev pub invariant-attempts : goal.invariant-attempts
invariant-attempts g l =
    let log = l.log in
    IsKnown log.log log.campaign.fold log.pending (g.D.Disk.seen log.disk) (g.D.Disk.images log.disk)
    × (log.pending ≡ None)
