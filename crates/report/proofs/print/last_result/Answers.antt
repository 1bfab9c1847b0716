use Rattle.report.proofs.Entered.{next-event}
use Rattle.report.proofs.print.last_result.Goals as goal

pub loop-event-preserved : goal.loop-event-preserved
loop-event-preserved c =
    next-event _ _ c.event-item.result _ _ _ c.loop-event-test.true c.event-item.is c.loop-event.invariant
    c.result_in.ensures c.or-last.ensures
