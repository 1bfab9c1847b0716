use Rattle.std.proofs.Common.{◌≡◌, ℕ, List}
use Rattle.disk_core.specs.Images.{EachImage, From}
use Rattle.disk_core.specs.Moments.{LeavesOnly}
use Rattle.disk_core.proofs.Moments.{weaker}
use Rattle.slot_store.specs.Extents.{node_places}
use Rattle.slot_store.specs.Leaves.{TornBy}
use Rattle.node_store.specs.Open.{IsBlank}
use Rattle.node_store.proofs.Blank.{still-blank}
use Rattle.node_store.proofs.making.install.Goals as goal

pub returns-in-Ok-clause-any_moment : goal.returns-in-Ok-clause-any_moment
returns-in-Ok-clause-any_moment g c =
    let d = g.D.Disk in
    let f = c.format_areas.ensures.formats in
    let old = c.args.extents.now.disk in
    weaker d.moment d.left_since old c.format_areas.new.staging.disk (From (d.images old) (TornBy node_places f.steps))
    IsBlank (still-blank f.steps (d.images old) f.sides c.requires.blank)
    (c.runs_leave_what_they_put.ensures.any_moment f.steps c.args.extents.now c.format_areas.new.staging f.ran)

pub returns-in-Ok-clause-blank : goal.returns-in-Ok-clause-blank
returns-in-Ok-clause-blank g c x now =
    let run = returns-in-Ok-clause-any_moment g c in
    let d = g.D.Disk in
    let m = g.met.D.Disk in
    run.each x (m.counts_now c.format_areas.new.staging.disk (d.moment c.args.extents.now.disk) x run.later now)

pub returns-in-Ok-clause-plan : goal.returns-in-Ok-clause-plan
returns-in-Ok-clause-plan g c =
    let f = c.format_areas.ensures.formats in
    c.runs_leave_what_they_put.ensures.plan f.steps c.args.extents.now c.format_areas.new.staging f.ran

pub returns-in-Err-StagingFailed-clause-any_moment : goal.returns-in-Err-StagingFailed-clause-any_moment
returns-in-Err-StagingFailed-clause-any_moment g c =
    let d = g.D.Disk in
    let f = c.format_areas.ensures.formats in
    let old = c.args.extents.now.disk in
    weaker d.moment d.left_since old c.format_areas.new.staging.disk (From (d.images old) (TornBy node_places f.steps))
    IsBlank (still-blank f.steps (d.images old) f.sides c.requires.blank)
    (c.runs_leave_what_they_put.ensures.any_moment f.steps c.args.extents.now c.format_areas.new.staging f.ran)

pub returns-in-Err-StagingFailed-clause-blank : goal.returns-in-Err-StagingFailed-clause-blank
returns-in-Err-StagingFailed-clause-blank g c x now =
    let run = returns-in-Err-StagingFailed-clause-any_moment g c in
    let d = g.D.Disk in
    let m = g.met.D.Disk in
    run.each x (m.counts_now c.format_areas.new.staging.disk (d.moment c.args.extents.now.disk) x run.later now)

pub returns-in-Err-StagingFailed-clause-plan : goal.returns-in-Err-StagingFailed-clause-plan
returns-in-Err-StagingFailed-clause-plan g c =
    let f = c.format_areas.ensures.formats in
    c.runs_leave_what_they_put.ensures.plan f.steps c.args.extents.now c.format_areas.new.staging f.ran

pub returns-in-Err-OutOfMemory-clause-any_moment : goal.returns-in-Err-OutOfMemory-clause-any_moment
returns-in-Err-OutOfMemory-clause-any_moment g c =
    let d = g.D.Disk in
    let f = c.format_areas.ensures.formats in
    let old = c.args.extents.now.disk in
    weaker d.moment d.left_since old c.format_areas.new.staging.disk (From (d.images old) (TornBy node_places f.steps))
    IsBlank (still-blank f.steps (d.images old) f.sides c.requires.blank)
    (c.runs_leave_what_they_put.ensures.any_moment f.steps c.args.extents.now c.format_areas.new.staging f.ran)

pub returns-in-Err-OutOfMemory-clause-blank : goal.returns-in-Err-OutOfMemory-clause-blank
returns-in-Err-OutOfMemory-clause-blank g c x now =
    let run = returns-in-Err-OutOfMemory-clause-any_moment g c in
    let d = g.D.Disk in
    let m = g.met.D.Disk in
    run.each x (m.counts_now c.format_areas.new.staging.disk (d.moment c.args.extents.now.disk) x run.later now)

pub returns-in-Err-OutOfMemory-clause-plan : goal.returns-in-Err-OutOfMemory-clause-plan
returns-in-Err-OutOfMemory-clause-plan g c =
    let f = c.format_areas.ensures.formats in
    c.runs_leave_what_they_put.ensures.plan f.steps c.args.extents.now c.format_areas.new.staging f.ran
