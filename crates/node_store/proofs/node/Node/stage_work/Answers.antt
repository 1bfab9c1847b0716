use Rattle.std.proofs.Common.{Err, ◌∙◌, ap}
use Rattle.node_core.specs.Errors.{end_by}
use Rattle.node_store.proofs.Staged.{ended_short, ended_well, reserved_open, reserved_plan, reserved_serves}
use Rattle.node_store.proofs.node.Node.stage_work.Goals as goal

pub returns-in-Ok-clause-known : goal.returns-in-Ok-clause-known
returns-in-Ok-clause-known g c =
    let d = g.D.Disk in let m = g.met.D.Disk in let self = c.args.self.now in
    reserved_open d.seen d.images d.moment d.left_since d.armed m.counts_now m.only_now m.reads_as_image self.log
    self.ready self.extents c.reserve_work.new.staging c.requires.known _ _ (end_by c.reserve_work.result)
    c.reserve_work.ensures.reserves c.reserve_work.new.self c.reserve_work.ensures.state c.reserve_work.ensures.sound
    (ended_well (end_by c.reserve_work.result) (ap end_by c.in-Ok.is))

pub returns-in-Err-OutOfMemory-clause-memory : goal.returns-in-Err-OutOfMemory-clause-memory
returns-in-Err-OutOfMemory-clause-memory g c memory =
    let d = g.D.Disk in let m = g.met.D.Disk in let self = c.args.self.now in
    reserved_open d.seen d.images d.moment d.left_since d.armed m.counts_now m.only_now m.reads_as_image self.log
    self.ready self.extents c.reserve_work.new.staging c.requires.known _ _ (end_by c.reserve_work.result)
    c.reserve_work.ensures.reserves c.reserve_work.new.self c.reserve_work.ensures.state c.reserve_work.ensures.sound
    (ended_short (end_by c.reserve_work.result)
    (ap end_by (c.in-Err-OutOfMemory.is ∙ ap Err c.in-Err-OutOfMemory.field-0-is)))

pub returns-in-Ok-clause-any_moment : goal.returns-in-Ok-clause-any_moment
returns-in-Ok-clause-any_moment g c =
    let d = g.D.Disk in let m = g.met.D.Disk in let self = c.args.self.now in
    reserved_serves d.seen d.images d.moment d.left_since d.armed m.counts_now m.only_now m.reads_as_image self.log
    self.ready self.extents c.reserve_work.new.staging c.requires.known _ _ (end_by c.reserve_work.result)
    c.reserve_work.ensures.reserves

pub returns-in-Ok-clause-plan : goal.returns-in-Ok-clause-plan
returns-in-Ok-clause-plan g c =
    let d = g.D.Disk in let m = g.met.D.Disk in let self = c.args.self.now in
    reserved_plan d.seen d.images d.moment d.left_since d.armed m.counts_now m.only_now m.reads_as_image self.log
    self.ready self.extents c.reserve_work.new.staging c.requires.known _ _ (end_by c.reserve_work.result)
    c.reserve_work.ensures.reserves

pub returns-in-Err-StagingFailed-clause-any_moment : goal.returns-in-Err-StagingFailed-clause-any_moment
returns-in-Err-StagingFailed-clause-any_moment g c =
    let d = g.D.Disk in let m = g.met.D.Disk in let self = c.args.self.now in
    reserved_serves d.seen d.images d.moment d.left_since d.armed m.counts_now m.only_now m.reads_as_image self.log
    self.ready self.extents c.reserve_work.new.staging c.requires.known _ _ (end_by c.reserve_work.result)
    c.reserve_work.ensures.reserves

pub returns-in-Err-StagingFailed-clause-plan : goal.returns-in-Err-StagingFailed-clause-plan
returns-in-Err-StagingFailed-clause-plan g c =
    let d = g.D.Disk in let m = g.met.D.Disk in let self = c.args.self.now in
    reserved_plan d.seen d.images d.moment d.left_since d.armed m.counts_now m.only_now m.reads_as_image self.log
    self.ready self.extents c.reserve_work.new.staging c.requires.known _ _ (end_by c.reserve_work.result)
    c.reserve_work.ensures.reserves

pub returns-in-Err-OutOfMemory-clause-any_moment : goal.returns-in-Err-OutOfMemory-clause-any_moment
returns-in-Err-OutOfMemory-clause-any_moment g c =
    let d = g.D.Disk in let m = g.met.D.Disk in let self = c.args.self.now in
    reserved_serves d.seen d.images d.moment d.left_since d.armed m.counts_now m.only_now m.reads_as_image self.log
    self.ready self.extents c.reserve_work.new.staging c.requires.known _ _ (end_by c.reserve_work.result)
    c.reserve_work.ensures.reserves

pub returns-in-Err-OutOfMemory-clause-plan : goal.returns-in-Err-OutOfMemory-clause-plan
returns-in-Err-OutOfMemory-clause-plan g c =
    let d = g.D.Disk in let m = g.met.D.Disk in let self = c.args.self.now in
    reserved_plan d.seen d.images d.moment d.left_since d.armed m.counts_now m.only_now m.reads_as_image self.log
    self.ready self.extents c.reserve_work.new.staging c.requires.known _ _ (end_by c.reserve_work.result)
    c.reserve_work.ensures.reserves
