use Rattle.event_log.proofs.Beside.{still_holds, still_in_doubt}
use Rattle.event_log.proofs.frames.writes_elsewhere_leave_the_log.Goals as goal

pub returns-clause-holds : goal.returns-clause-holds
returns-clause-holds g c log now at n x y beside torn held =
    still_holds at n x y torn g.S.Stored.start g.S.Stored.step log now beside held

pub returns-clause-in_doubt : goal.returns-clause-in_doubt
returns-clause-in_doubt g c log doubt at n x y beside torn doubts =
    still_in_doubt at n x y torn g.S.Stored.start g.S.Stored.step log doubt beside doubts
