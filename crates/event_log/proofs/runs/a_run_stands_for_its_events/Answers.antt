use Rattle.event_log.proofs.Histories.{stands}
use Rattle.event_log.proofs.runs.a_run_stands_for_its_events.Goals as goal

pub returns : goal.returns
returns g c known log disk stations knows run =
    stands g.S.Stored.step g.D.Disk.images g.S.Stored.start known log disk stations knows run
