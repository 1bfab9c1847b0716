use Rattle.std.proofs.Common.{Some, sym, ◌∙◌, ap, subst}
use Rattle.disk_area.specs.declared.area.Area.{Area}
use Rattle.disk_area.specs.Windows.{window, IsInside}
use Rattle.journal.specs.Records.{journal_list}
use Rattle.checkpoint.specs.Halves.{Body}
use Rattle.disk_core.proofs.Runs.{first_run}
use Rattle.event_log.proofs.Steps.{journal_inside}
use Rattle.event_log.proofs.OneLog.{few_taken, found_is}
use Rattle.event_log.proofs.find.with_records.Goals as goal

pub list-requires : goal.list-requires
list-requires g c =
    let image = g.D.Disk.seen c.args.disk.now in
    subst (λ (a : Area). IsInside a image) (sym c.journal_area.ensures)
    (journal_inside c.args.half image c.requires.size)

pub returns-in_err-records-clause-any_moment : goal.returns-in_err-records-clause-any_moment
returns-in_err-records-clause-any_moment g c =
    let d = g.D.Disk in
    first_run d.moment d.left_since d.images c.args.disk.now c.list.new.disk
    (g.met.D.Disk.only_now c.args.disk.now) c.list.ensures.images.none_new c.list.ensures.time

pub byte_len-used-requires : goal.byte_len-used-requires
byte_len-used-requires g c =
    let image = g.D.Disk.seen c.args.disk.now in
    few_taken image c.args.half c.in_ok-records.records c.requires.size c.requires.goes_on
    (c.in_ok-records.ensures.list ∙ ap (λ (a : Area). journal_list (window a image)) c.journal_area.ensures)

pub returns-clause-found : goal.returns-clause-found
returns-clause-found g c =
    let image = g.D.Disk.seen c.args.disk.now in
    found_is g.S.Stored.start image c.args.half c.body.inside.generation c.byte_len-used.result
    c.body.inside.state.items c.in_ok-records.records c.requires.half c.requires.size
    (c.requires.counts ∙ ap (λ (b : Body). Some (c.args.half, b)) (sym c.body.view_is)) c.requires.goes_on
    (c.in_ok-records.ensures.list ∙ ap (λ (a : Area). journal_list
    (window a image)) c.journal_area.ensures) c.byte_len-used.ensures

pub returns-clause-any_moment : goal.returns-clause-any_moment
returns-clause-any_moment g c =
    let d = g.D.Disk in
    first_run d.moment d.left_since d.images c.args.disk.now c.list.new.disk
    (g.met.D.Disk.only_now c.args.disk.now) c.list.ensures.images.none_new c.list.ensures.time
