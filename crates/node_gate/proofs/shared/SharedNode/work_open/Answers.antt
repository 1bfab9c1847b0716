use Rattle.std.proofs.Common.{◌≡◌, ◌∙◌, Err, inl, inr, refl, sym, ap, subst, None, Some, true}
use Rattle.pm_types.specs.declared.replies.Worked.TheVariants.{Nothing}
use Rattle.node_core.specs.Units.{answer_to}
use Rattle.node_store.specs.Serving.{node_on}
use Rattle.node_gate.specs.Stands.{listing_in, node_after, node_at}
use Rattle.node_gate.proofs.Entered.{gives_up, here, none_pending, stays_open}
use Rattle.node_gate.proofs.Rises.{at_least_one}
use Rattle.node_gate.proofs.Stands.{same_stands, settles_lost}
use Rattle.node_gate.proofs.Units.{none_to_do}
use Rattle.node_gate.proofs.shared.SharedNode.work_open.Goals as goal

pub returns-in-Ok-Nothing-clause-stands : goal.returns-in-Ok-Nothing-clause-stands
returns-in-Ok-Nothing-clause-stands g c o stands =
    let d = g.D.Disk in
    let old = c.args.self.now in
    let opened = c.requires.open in
    let new = c.foresee_work.new.self in
    stays_open d o old new stands opened
    (c.foresee_work.ensures.closed ∙ opened) c.in-Ok-Nothing.ensures.known c.foresee_work.ensures.node
    c.foresee_work.ensures.any_moment

pub returns-in-Ok-Nothing-clause-works : goal.returns-in-Ok-Nothing-clause-works
returns-in-Ok-Nothing-clause-works g c o stands =
    let d = g.D.Disk in
    let old = c.args.self.now in
    let opened = c.requires.open in
    let new = c.foresee_work.new.self in
    let n = node_on old.node.ready.state (d.seen old.node.extents.disk) in
    let same = here d o old new stands opened in
    let fit = ((stands.known.open_is opened).sound).fit.consistent in
    let none = none_to_do c.as_slice.result.now n c.in-Ok-Nothing.status fit.session fit.processing
    (sym c.in-Ok-Nothing.ensures.worked ∙ c.in-Ok-Nothing.field-0-is) in
    record {
      settled = record {
        settled = settles_lost old.entries.items old.pending;
        no_doubt = none_pending d o old new stands opened;
      };
      status_is = none.0 ∙ ap (λ m. m.status) same;
      rests = none.1;
    }

pub returns-in-Ok-Unit-clause-works : goal.returns-in-Ok-Unit-clause-works
returns-in-Ok-Unit-clause-works g c o stands =
    let d = g.D.Disk in
    let old = c.args.self.now in
    let opened = c.requires.open in
    let new = c.foresee_work.new.self in
    c.enter_work.ensures.works o
    (stays_open d o old new stands opened
    (c.foresee_work.ensures.closed ∙ opened) c.in-Ok-Unit.ensures.known c.foresee_work.ensures.node
    c.foresee_work.ensures.any_moment)

pub returns-in-Ok-Unit-clause-stands : goal.returns-in-Ok-Unit-clause-stands
returns-in-Ok-Unit-clause-stands g c o stands =
    let d = g.D.Disk in
    let old = c.args.self.now in
    let opened = c.requires.open in
    let new = c.foresee_work.new.self in
    c.enter_work.ensures.stands o
    (stays_open d o old new stands opened
    (c.foresee_work.ensures.closed ∙ opened) c.in-Ok-Unit.ensures.known c.foresee_work.ensures.node
    c.foresee_work.ensures.any_moment)

pub returns-in-Err-OutOfMemory-clause-stands : goal.returns-in-Err-OutOfMemory-clause-stands
returns-in-Err-OutOfMemory-clause-stands g c o stands =
    let d = g.D.Disk in
    let old = c.args.self.now in
    let opened = c.requires.open in
    let new = c.foresee_work.new.self in
    let kept = c.foresee_work.ensures.memory (c.in-Err-OutOfMemory.is ∙ ap Err c.in-Err-OutOfMemory.field-0-is) in
    stays_open d o old new stands opened
    (c.foresee_work.ensures.closed ∙ opened) kept c.foresee_work.ensures.node c.foresee_work.ensures.any_moment

pub returns-in-Err-Failed-clause-stands : goal.returns-in-Err-Failed-clause-stands
returns-in-Err-Failed-clause-stands g c o stands =
    let d = g.D.Disk in
    let old = c.args.self.now in
    let opened = c.requires.open in
    let mid = c.foresee_work.new.self in
    let end = c.shut-faults.new.self in
    let new = record mid { is_closed = true } in
    let run = c.foresee_work.ensures.any_moment in
    same_stands d o old.fails.items new old.entries.items None end
    (ap (λ v. v.items) c.shut-faults.ensures.fails) c.shut-faults.ensures.closed
    (ap (λ v. v.items) c.shut-faults.ensures.entries) c.shut-faults.ensures.pending
    (gives_up d o old new stands opened c.foresee_work.ensures.state refl
    (λ image now. run.each image (g.met.D.Disk.counts_now mid.extents.disk (d.moment old.node.extents.disk) image
    run.later now)) run)
