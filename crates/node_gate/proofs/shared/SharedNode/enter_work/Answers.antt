use Rattle.std.proofs.Common.{rules, ◌≡◌, ◌∙◌, ◌++◌, ◌∷◌, [], Err, inr, refl, sym, ap, subst, None, Some, true}
use Rattle.pm_types.specs.declared.history.Entry.TheVariants.{Unit as UnitDone}
use Rattle.turn_gate.specs.Mine.{Settles}
use Rattle.pm_types.specs.Histories.{IsNext}
use Rattle.node_core.specs.Packages.{package_reading}
use Rattle.node_core.specs.Units.{after_work, answer_to}
use Rattle.node_store.specs.declared.answers.WorkAnswer.TheVariants.{Worked as Did}
use Rattle.node_store.specs.Serving.{node_on}
use Rattle.node_gate.specs.Calls.{WorksTo}
use Rattle.node_gate.specs.Stands.{listing, listing_in, node_after, node_at}
use Rattle.node_gate.proofs.Entered.{entered, here, none_pending, pends, stays_without}
use Rattle.node_gate.proofs.Rises.{at_least_one}
use Rattle.node_gate.proofs.Stands.{same_stands, settles_lost}
use Rattle.node_gate.proofs.Units.{unit_goes}
use Rattle.node_gate.proofs.shared.SharedNode.enter_work.Goals as goal

pub returns-in-Ok-clause-stands : goal.returns-in-Ok-clause-stands
returns-in-Ok-clause-stands g c o stands =
    let d = g.D.Disk in
    let old = c.args.self.now in
    let opened = c.requires.open in
    let new = c.enter_work.new.self in
    let end = c.list.new.self in
    let e = UnitDone c.args.passed c.args.after in
    let n = node_on old.node.ready.state (d.seen old.node.extents.disk) in
    let none = none_pending d o old new stands opened in
    let names = c.as_slice.result.now in
    let same : names ≡ old.fails.items = search rules in
    let goes = unit_goes n (node_after d.seen o old.entries.items) (here d o old new stands opened) names
    old.fails.items same c.args.passed c.args.after c.requires.due in
    same_stands d o old.fails.items new (old.entries.items ++ e ∷ []) None end (ap (λ v. v.items) c.list.ensures.fails)
    c.list.ensures.node c.list.ensures.entries (c.list.ensures.pending ∙ none)
    (entered d o old new stands opened
    e (after_work names n) goes.0 (goes.1, goes.2) (c.enter_work.ensures.closed ∙ opened)
    c.in-Ok.ensures.known c.in-Ok.ensures.node c.enter_work.ensures.any_moment)

pub returns-in-Err-OutOfMemory-clause-stands : goal.returns-in-Err-OutOfMemory-clause-stands
returns-in-Err-OutOfMemory-clause-stands g c o stands =
    let d = g.D.Disk in
    let old = c.args.self.now in
    let opened = c.requires.open in
    let new = c.enter_work.new.self in
    let e = UnitDone c.args.passed c.args.after in
    let n = node_on old.node.ready.state (d.seen old.node.extents.disk) in
    let names = c.as_slice.result.now in
    let same : names ≡ old.fails.items = search rules in
    let goes = unit_goes n (node_after d.seen o old.entries.items) (here d o old new stands opened) names
    old.fails.items same c.args.passed c.args.after c.requires.due in
    let kept = c.enter_work.ensures.memory (c.in-Err-OutOfMemory.is ∙ ap Err c.in-Err-OutOfMemory.field-0-is) in
    stays_without d o old new stands opened
    e (after_work names n) goes.0 (goes.1, goes.2) (c.enter_work.ensures.closed ∙ opened)
    kept.0 kept.1 c.enter_work.ensures.any_moment

pub returns-in-Err-Failed-clause-stands : goal.returns-in-Err-Failed-clause-stands
returns-in-Err-Failed-clause-stands g c o stands =
    let d = g.D.Disk in
    let old = c.args.self.now in
    let opened = c.requires.open in
    let mid = c.enter_work.new.self in
    let end = c.shut-faults.new.self in
    let new = record mid { is_closed = true } in
    let e = UnitDone c.args.passed c.args.after in
    let n = node_on old.node.ready.state (d.seen old.node.extents.disk) in
    let names = c.as_slice.result.now in
    let same : names ≡ old.fails.items = search rules in
    let goes = unit_goes n (node_after d.seen o old.entries.items) (here d o old new stands opened) names
    old.fails.items same c.args.passed c.args.after c.requires.due in
    let run = c.enter_work.ensures.any_moment in
    same_stands d o old.fails.items new old.entries.items (Some e) end (ap (λ v. v.items) c.shut-faults.ensures.fails)
    c.shut-faults.ensures.closed (ap (λ v. v.items) c.shut-faults.ensures.entries) c.shut-faults.ensures.pending
    (pends d o old new stands opened
    e (after_work names n) goes.0 (goes.1, goes.2) c.in-Err-Failed.ensures.kept refl
    (λ image now. run.each image (g.met.D.Disk.counts_now mid.extents.disk (d.moment old.node.extents.disk) image
    run.later now)) run)

pub returns-in-Ok-clause-works : goal.returns-in-Ok-clause-works
returns-in-Ok-clause-works g c o stands =
    let d = g.D.Disk in
    let old = c.args.self.now in
    let opened = c.requires.open in
    let new = c.enter_work.new.self in
    let end = c.list.new.self in
    let e = UnitDone c.args.passed c.args.after in
    let n = node_on old.node.ready.state (d.seen old.node.extents.disk) in
    let names = c.as_slice.result.now in
    let same : names ≡ old.fails.items = search rules in
    let goes = unit_goes n (node_after d.seen o old.entries.items) (here d o old new stands opened) names
    old.fails.items same c.args.passed c.args.after c.requires.due in
    let none = none_pending d o old new stands opened in
    subst (λ w. WorksTo (node_at d.seen o) (Did w) (listing_in old) (listing_in end))
    (sym (c.in-Ok.ensures.answer ∙ ap (λ l. answer_to l n) same ∙ c.requires.due))
    (record {
      before = old.entries.items;
      settled = settles_lost old.entries.items old.pending;
      next = goes.1.0;
      entered = λ i. listing (c.list.ensures.entries i) ((c.list.ensures.pending ∙ none) i);
    })

pub returns-in-Err-Failed-clause-works : goal.returns-in-Err-Failed-clause-works
returns-in-Err-Failed-clause-works g c o stands =
    let d = g.D.Disk in
    let old = c.args.self.now in
    let opened = c.requires.open in
    let new = c.enter_work.new.self in
    let end = c.shut-faults.new.self in
    let e = UnitDone c.args.passed c.args.after in
    let n = node_on old.node.ready.state (d.seen old.node.extents.disk) in
    let names = c.as_slice.result.now in
    let same : names ≡ old.fails.items = search rules in
    let goes = unit_goes n (node_after d.seen o old.entries.items) (here d o old new stands opened) names
    old.fails.items same c.args.passed c.args.after c.requires.due in
    let kept = sym (ap (λ v. v.items) c.shut-faults.ensures.entries) in (
      at_least_one _ _ _ c.shut-faults.ensures.rise,
      inr (
        c.args.passed,
        c.args.after,
        record {
          settled = subst (Settles old.pending old.entries.items) kept (settles_lost old.entries.items old.pending);
          next = subst (λ l. IsNext package_reading (node_after d.seen o l) e) kept goes.1.0;
          pending = c.shut-faults.ensures.pending;
        },
      ),
    )
