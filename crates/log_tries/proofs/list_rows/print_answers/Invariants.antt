use Rattle.std.proofs.Common.{◌≡◌, None}
use Rattle.decision_log.specs.Known.{IsKnown}
use Rattle.log_tries.proofs.list_rows.print_answers.Given as goal

abbrev pub invariant-events : goal.invariant-events
invariant-events g l =
    let log = l.log in
    IsKnown log.log log.campaign.fold log.pending (g.D.Disk.seen log.disk) (g.D.Disk.images log.disk)
    × (log.pending ≡ None)
