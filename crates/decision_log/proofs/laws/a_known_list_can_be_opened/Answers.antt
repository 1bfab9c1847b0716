use Rattle.decision_log.proofs.Known.{doubt_is, now_is}
use Rattle.decision_log.proofs.Left.{either_opens, may_open}
use Rattle.decision_log.proofs.laws.a_known_list_can_be_opened.Goals as goal

pub returns-clause-known : goal.returns-clause-known
returns-clause-known g c log fold disk image known now =
    let d = g.D.Disk in
    let is = now_is log fold (d.seen disk) (d.images disk) image known now in
    (may_open image fold known.within is, is)

pub returns-clause-pending : goal.returns-clause-pending
returns-clause-pending g c log fold event disk image known now =
    let d = g.D.Disk in
    let is = doubt_is log fold event (d.seen disk) (d.images disk) image known now in
    (either_opens fold event image known.within is, is)

pub returns-clause-moment : goal.returns-clause-moment
returns-clause-moment g c fold event image within is = either_opens fold event image within is
