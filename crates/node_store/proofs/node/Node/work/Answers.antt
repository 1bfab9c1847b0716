use Rattle.std.proofs.Common.{Err, ◌∙◌, ap}
use Rattle.node_store.proofs.Entered.{open_serves}
use Rattle.node_store.proofs.node.Node.work.Goals as goal

pub returns-in-Ok-clause-durable : goal.returns-in-Ok-clause-durable
returns-in-Ok-clause-durable g c still =
    let new = c.step_work.new.self in
    open_serves new.log new.ready (g.D.Disk.seen new.extents.disk) (g.D.Disk.images new.extents.disk)
    c.in-Ok.ensures.known

pub returns-in-Err-OutOfMemory-clause-durable : goal.returns-in-Err-OutOfMemory-clause-durable
returns-in-Err-OutOfMemory-clause-durable g c still =
    let new = c.step_work.new.self in
    open_serves new.log new.ready (g.D.Disk.seen new.extents.disk) (g.D.Disk.images new.extents.disk)
    (c.step_work.ensures.memory (c.in-Err-OutOfMemory.is ∙ ap Err c.in-Err-OutOfMemory.field-0-is)).0

pub returns-in-Err-Failed-clause-pending : goal.returns-in-Err-Failed-clause-pending
returns-in-Err-Failed-clause-pending g c still x now =
    let d = g.D.Disk in
    let m = g.met.D.Disk in
    let run = c.step_work.ensures.any_moment in
    run.each x (m.counts_now c.step_work.new.self.extents.disk (d.moment c.args.self.now.extents.disk) x run.later now)
