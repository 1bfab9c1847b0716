use Rattle.decision_log.specs.Known.{IsKnown}
use Rattle.log_tries.proofs.long_list.add_all.Given as goal

abbrev pub invariant-campaigns : goal.invariant-campaigns
invariant-campaigns g l =
    let log = l.log in
    IsKnown log.log log.campaign.fold log.pending (g.D.Disk.seen log.disk) (g.D.Disk.images log.disk)
