use Rattle.plan_numbers.specs.Plans.{plan_numbers}
use Rattle.master_gate.specs.Stands.{Knows, StandsFor, account_of}
use Rattle.master_gate.proofs.Seats.{at_opening, may_leave}
use Rattle.master_gate.proofs.Stands.{image_of}
use Rattle.master_gate.proofs.gate.MasterGate.close.Goals as goal

pub returns-clause-pending : goal.returns-clause-pending
returns-clause-pending g c =
    may_leave c.args.self c.args.seat c.requires.ours (account_of g.D.Disk.fault_count c.close_one-log.result)
    c.close_one-log.ensures.own_entries

pub returns-clause-images : goal.returns-clause-images
returns-clause-images g c image now =
    let d = g.D.Disk in
    let it = c.close_one-log.result in
    let known = at_opening (λ o. StandsFor d.moment d.left_since d.seen d.images o it.log it.events.items)
    (λ f. Knows d.seen d.images it.log) (plan_numbers (d.armed it.log.disk)) c.args.seat.view.fixed
    c.requires.ours.seat.made c.close_one-log.ensures.is_true (λ o stands. stands.known) in
    image_of it.log.log it.log.campaign.fold it.log.pending (d.seen it.log.disk) (d.images it.log.disk) image known now
