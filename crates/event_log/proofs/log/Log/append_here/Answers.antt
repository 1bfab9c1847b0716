use Rattle.std.proofs.Common.{arith, ℕ, Some, Err, refl, sym, ◌∙◌, ap, subst}
use Rattle.disk_core.specs.Images.{From}
use Rattle.disk_core.specs.Moments.{LeavesOnly}
use Rattle.disk_core.proofs.Moments.{weaker}
use Rattle.disk_area.specs.declared.area.Area.{Area}
use Rattle.disk_area.specs.Windows.{InArea}
use Rattle.journal.specs.Ready.{IsReady, MayGrow}
use Rattle.checkpoint.specs.Halves.{layout_of, journal_area}
use Rattle.checkpoint.proofs.Places.{sound}
use Rattle.event_log.specs.Beside.{InHalves}
use Rattle.event_log.specs.Doubts.{InDoubt, of_event}
use Rattle.event_log.specs.Holds.{StandsFor}
use Rattle.event_log.proofs.Steps.{ready, may_grow, added, stands_for}
use Rattle.event_log.proofs.Elsewhere.{by_journal}
use Rattle.event_log.proofs.Switches.{at_end}
use Rattle.event_log.proofs.log.Log.append_here.Goals as goal

pub journal_area-requires : goal.journal_area-requires
journal_area-requires g c = (c.requires.holds _ (g.met.D.Disk.reads_as_image c.args.disk.now)).stands.half

pub append-requires-clause-ready : goal.append-requires-clause-ready
append-requires-clause-ready g c x now =
    let log = c.args.self.now in
    subst (λ (p : Area × ℕ). IsReady p.0 p.1 x)
    (λ i. (sym (c.at-journal.ensures.area ∙ c.journal_area.ensures) i, sym c.at-journal.ensures.used i))
    (ready g.S.Stored.start g.S.Stored.step log (Some c.args.present.now) x (c.requires.holds x now))

pub append-requires-clause-short : goal.append-requires-clause-short
append-requires-clause-short g c = omega (arith, c.requires.room, (sound c.args.self.now.half).ends)

pub returns-in-Ok-clause-acknowledged : goal.returns-in-Ok-clause-acknowledged
returns-in-Ok-clause-acknowledged g c x now =
    let d = g.D.Disk in
    let old = d.seen c.args.disk.now in
    added g.S.Stored.start g.S.Stored.step c.args.self.now
    (Some c.args.present.now) c.args.present.now c.args.event.now c.at-journal.result.area
    c.at-journal.result.used c.append.new.self.used
    refl (c.at-journal.ensures.area
    ∙ c.journal_area.ensures) c.at-journal.ensures.used c.in-Ok.ensures.used old x (c.requires.holds old
    (g.met.D.Disk.reads_as_image c.args.disk.now)) (c.in-Ok.ensures.acknowledged x now)

pub returns-in-Ok-clause-any_moment : goal.returns-in-Ok-clause-any_moment
returns-in-Ok-clause-any_moment g c =
    let d = g.D.Disk in
    let log = c.args.self.now in
    let old = c.args.disk.now in
    let run =
    subst (λ (p : Area × ℕ). LeavesOnly d.moment d.left_since old c.append.new.disk
    (From (d.images old) (InArea p.0 (MayGrow p.1 c.args.event.now)))) (λ i. (
      (c.at-journal.ensures.area ∙ c.journal_area.ensures) i,
      c.at-journal.ensures.used
          i,
    )) c.append.ensures.any_moment in
    weaker d.moment d.left_since old c.append.new.disk
    (From (d.images old) (InArea (journal_area log.half) (MayGrow log.used c.args.event.now)))
    (InDoubt g.S.Stored.start g.S.Stored.step log (of_event g.S.Stored.step c.args.present.now c.args.event.now))
    (may_grow g.S.Stored.start g.S.Stored.step log (Some c.args.present.now) c.args.present.now c.args.event.now
    (d.images old) refl c.requires.holds) run

pub returns-in-Err-Failed-clause-any_moment : goal.returns-in-Err-Failed-clause-any_moment
returns-in-Err-Failed-clause-any_moment g c =
    let d = g.D.Disk in
    let log = c.args.self.now in
    let old = c.args.disk.now in
    let run =
    subst (λ (p : Area × ℕ). LeavesOnly d.moment d.left_since old c.append.new.disk
    (From (d.images old) (InArea p.0 (MayGrow p.1 c.args.event.now)))) (λ i. (
      (c.at-journal.ensures.area ∙ c.journal_area.ensures) i,
      c.at-journal.ensures.used
          i,
    )) c.append.ensures.any_moment in
    weaker d.moment d.left_since old c.append.new.disk
    (From (d.images old) (InArea (journal_area log.half) (MayGrow log.used c.args.event.now)))
    (InDoubt g.S.Stored.start g.S.Stored.step log (of_event g.S.Stored.step c.args.present.now c.args.event.now))
    (may_grow g.S.Stored.start g.S.Stored.step log (Some c.args.present.now) c.args.present.now c.args.event.now
    (d.images old) refl c.requires.holds) run

pub returns-in-Err-OutOfMemory-clause-any_moment : goal.returns-in-Err-OutOfMemory-clause-any_moment
returns-in-Err-OutOfMemory-clause-any_moment g c =
    let d = g.D.Disk in
    let log = c.args.self.now in
    let old = c.args.disk.now in
    let run =
    subst (λ (p : Area × ℕ). LeavesOnly d.moment d.left_since old c.append.new.disk
    (From (d.images old) (InArea p.0 (MayGrow p.1 c.args.event.now)))) (λ i. (
      (c.at-journal.ensures.area ∙ c.journal_area.ensures) i,
      c.at-journal.ensures.used
          i,
    )) c.append.ensures.any_moment in
    weaker d.moment d.left_since old c.append.new.disk
    (From (d.images old) (InArea (journal_area log.half) (MayGrow log.used c.args.event.now)))
    (InDoubt g.S.Stored.start g.S.Stored.step log (of_event g.S.Stored.step c.args.present.now c.args.event.now))
    (may_grow g.S.Stored.start g.S.Stored.step log (Some c.args.present.now) c.args.present.now c.args.event.now
    (d.images old) refl c.requires.holds) run

pub returns-in-Err-Failed-clause-in_doubt : goal.returns-in-Err-Failed-clause-in_doubt
returns-in-Err-Failed-clause-in_doubt g c failed =
    let d = g.D.Disk in
    let log = c.args.self.now in
    let old = c.args.disk.now in
    let new = c.append.new.disk in
    let run =
    subst (λ (p : Area × ℕ). LeavesOnly d.moment d.left_since old new
    (From (d.images old) (InArea p.0 (MayGrow p.1 c.args.event.now)))) (λ i. (
      (c.at-journal.ensures.area ∙ c.journal_area.ensures) i,
      c.at-journal.ensures.used
          i,
    )) c.append.ensures.any_moment in
    let doubts = weaker d.moment d.left_since old new
    (From (d.images old) (InArea (journal_area log.half) (MayGrow log.used c.args.event.now)))
    (InDoubt g.S.Stored.start g.S.Stored.step log (of_event g.S.Stored.step c.args.present.now c.args.event.now))
    (may_grow g.S.Stored.start g.S.Stored.step log (Some c.args.present.now) c.args.present.now c.args.event.now
    (d.images old) refl c.requires.holds) run in
    at_end d.moment d.left_since d.images old new _ (λ x. g.met.D.Disk.counts_now new (d.moment old) x run.later) doubts

pub returns-in-Err-OutOfMemory-clause-memory : goal.returns-in-Err-OutOfMemory-clause-memory
returns-in-Err-OutOfMemory-clause-memory g c failed =
    let same = c.append.ensures.memory_disk (c.in-Err-OutOfMemory.is ∙ ap Err c.in-Err-OutOfMemory.field-0-is) in (
      λ x now. c.requires.holds x (same.same_images.none_new x now),
      λ x now. c.requires.durable x
          (same.same_images.none_new x now) ∙ sym same.same_bytes,
    )

pub returns-in-Err-OutOfMemory-clause-memory_moment : goal.returns-in-Err-OutOfMemory-clause-memory_moment
returns-in-Err-OutOfMemory-clause-memory_moment g c failed =
    let d = g.D.Disk in
    let old = c.args.disk.now in
    weaker d.moment d.left_since old c.append.new.disk (d.images old)
    (StandsFor g.S.Stored.start g.S.Stored.step (layout_of c.args.self.now.half) (Some c.args.present.now))
    (λ x was. stands_for g.S.Stored.start g.S.Stored.step c.args.self.now (Some c.args.present.now) x
    (c.requires.holds x was))
    (c.append.ensures.memory_moment (c.in-Err-OutOfMemory.is ∙ ap Err c.in-Err-OutOfMemory.field-0-is))

pub returns-in-Ok-clause-elsewhere : goal.returns-in-Ok-clause-elsewhere
returns-in-Ok-clause-elsewhere g c =
    let d = g.D.Disk in
    let log = c.args.self.now in
    let old = c.args.disk.now in
    let run =
    subst (λ (p : Area × ℕ). LeavesOnly d.moment d.left_since old c.append.new.disk
    (From (d.images old) (InArea p.0 (MayGrow p.1 c.args.event.now)))) (λ i. (
      (c.at-journal.ensures.area ∙ c.journal_area.ensures) i,
      c.at-journal.ensures.used
          i,
    )) c.append.ensures.any_moment in
    weaker d.moment d.left_since old c.append.new.disk
    (From (d.images old) (InArea (journal_area log.half) (MayGrow log.used c.args.event.now)))
    (InHalves (layout_of log.half) (d.seen old))
    (by_journal log.half (MayGrow log.used c.args.event.now) (d.seen old) (d.images old) c.requires.durable) run

pub returns-in-Err-Failed-clause-elsewhere : goal.returns-in-Err-Failed-clause-elsewhere
returns-in-Err-Failed-clause-elsewhere g c =
    let d = g.D.Disk in
    let log = c.args.self.now in
    let old = c.args.disk.now in
    let run =
    subst (λ (p : Area × ℕ). LeavesOnly d.moment d.left_since old c.append.new.disk
    (From (d.images old) (InArea p.0 (MayGrow p.1 c.args.event.now)))) (λ i. (
      (c.at-journal.ensures.area ∙ c.journal_area.ensures) i,
      c.at-journal.ensures.used
          i,
    )) c.append.ensures.any_moment in
    weaker d.moment d.left_since old c.append.new.disk
    (From (d.images old) (InArea (journal_area log.half) (MayGrow log.used c.args.event.now)))
    (InHalves (layout_of log.half) (d.seen old))
    (by_journal log.half (MayGrow log.used c.args.event.now) (d.seen old) (d.images old) c.requires.durable) run

pub returns-in-Err-OutOfMemory-clause-elsewhere : goal.returns-in-Err-OutOfMemory-clause-elsewhere
returns-in-Err-OutOfMemory-clause-elsewhere g c =
    let d = g.D.Disk in
    let log = c.args.self.now in
    let old = c.args.disk.now in
    let run =
    subst (λ (p : Area × ℕ). LeavesOnly d.moment d.left_since old c.append.new.disk
    (From (d.images old) (InArea p.0 (MayGrow p.1 c.args.event.now)))) (λ i. (
      (c.at-journal.ensures.area ∙ c.journal_area.ensures) i,
      c.at-journal.ensures.used
          i,
    )) c.append.ensures.any_moment in
    weaker d.moment d.left_since old c.append.new.disk
    (From (d.images old) (InArea (journal_area log.half) (MayGrow log.used c.args.event.now)))
    (InHalves (layout_of log.half) (d.seen old))
    (by_journal log.half (MayGrow log.used c.args.event.now) (d.seen old) (d.images old) c.requires.durable) run
