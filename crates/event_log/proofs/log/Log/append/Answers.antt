use Rattle.std.proofs.Common.{ℕ, List, inl, Some, sym, subst}
use Rattle.std.proofs.lemmas.Result.{err_from_is_err_and}
use Rattle.disk_core.specs.Images.{EachImage}
use Rattle.disk_core.specs.Moments.{LeavesOnly}
use Rattle.disk_core.proofs.Moments.{weaker, joined}
use Rattle.checkpoint.specs.declared.layout.Layout.{Layout}
use Rattle.event_log.specs.Holds.{Holds, StandsFor}
use Rattle.event_log.specs.Doubts.{Either, InDoubt, MaySwitch, of_event}
use Rattle.event_log.specs.declared.log.Log.{Log}
use Rattle.event_log.proofs.Steps.{either, still}
use Rattle.checkpoint.specs.Halves.{layout_of}
use Rattle.event_log.specs.Beside.{InHalves}
use Rattle.event_log.proofs.Elsewhere.{then_elsewhere}
use Rattle.event_log.proofs.Switches.{at_end}
use Rattle.event_log.proofs.Histories.{append_known}
use Rattle.event_log.proofs.log.Log.append.Goals as goal

pub returns-in_err-make_room-clause-any_moment : goal.returns-in_err-make_room-clause-any_moment
returns-in_err-make_room-clause-any_moment g c =
    let d = g.D.Disk in
    let s = g.S.Stored in
    let log = c.args.self.now in
    let state = c.args.present.now in
    weaker d.moment d.left_since c.args.disk.now c.make_room.new.disk (MaySwitch s.start s.step log (Some state))
    (Either s.start s.step (layout_of log.half) (of_event s.step state c.args.event.now))
    (λ x may. inl (still s.start s.step log (Some state) x may)) c.make_room.ensures.any_moment

pub returns-in_err-make_room-clause-in_doubt : goal.returns-in_err-make_room-clause-in_doubt
returns-in_err-make_room-clause-in_doubt g c failed x now =
    let d = g.D.Disk in
    let s = g.S.Stored in
    let log = c.args.self.now in
    let state = c.args.present.now in
    let old = c.args.disk.now in
    let new = c.make_room.new.disk in
    subst (λ (l : Log). InDoubt s.start s.step l (of_event s.step state c.args.event.now) x)
    (sym c.in_err-make_room.ensures.same)
    (inl (at_end d.moment d.left_since d.images old new (MaySwitch s.start s.step log (Some state))
    (λ y. g.met.D.Disk.counts_now new (d.moment old) y c.make_room.ensures.any_moment.later)
    c.make_room.ensures.any_moment x now))

pub returns-in_err-make_room-clause-memory : goal.returns-in_err-make_room-clause-memory
returns-in_err-make_room-clause-memory g c =
    let p = err_from_is_err_and c.from_residual.result c.from_residual.ensures.1 in
    rw (p.1, p.2) (λ failed.
    let m = c.in_err-make_room.ensures.memory failed in (
      λ x now. subst (λ (l : Log). Holds g.S.Stored.start g.S.Stored.step l (Some c.args.present.now) x)
          (sym c.in_err-make_room.ensures.same) (m.0 x now),
      m.1,
    ))

pub returns-in_err-make_room-clause-memory_moment : goal.returns-in_err-make_room-clause-memory_moment
returns-in_err-make_room-clause-memory_moment g c failed =
    let d = g.D.Disk in
    let s = g.S.Stored in
    let log = c.args.self.now in
    let state = c.args.present.now in
    weaker d.moment d.left_since c.args.disk.now c.make_room.new.disk (MaySwitch s.start s.step log (Some state))
    (StandsFor s.start s.step (layout_of log.half) (Some state))
    (still s.start s.step log (Some state)) c.make_room.ensures.any_moment

pub returns-clause-any_moment : goal.returns-clause-any_moment
returns-clause-any_moment g c =
    let d = g.D.Disk in
    let s = g.S.Stored in
    let log = c.args.self.now in
    let state = c.args.present.now in
    let doubt = of_event s.step state c.args.event.now in
    let old = c.args.disk.now in
    let mid = c.make_room.new.disk in
    let first =
    weaker d.moment d.left_since old mid (MaySwitch s.start s.step log (Some state))
    (Either s.start s.step (layout_of log.half) doubt)
    (λ x may. inl (still s.start s.step log (Some state) x may)) c.make_room.ensures.any_moment in
    joined d.moment d.left_since old mid c.append_here.new.disk (Either s.start s.step (layout_of log.half) doubt)
    (InDoubt s.start s.step c.make_room.new.self doubt) first c.append_here.ensures.any_moment
    (subst (λ (l : Layout). EachImage (InDoubt s.start s.step c.make_room.new.self doubt)
    (Either s.start s.step l doubt)) c.make_room.ensures.pair (either s.start s.step c.make_room.new.self doubt))

pub returns-clause-memory_moment : goal.returns-clause-memory_moment
returns-clause-memory_moment g c failed =
    let d = g.D.Disk in
    let s = g.S.Stored in
    let log = c.args.self.now in
    let state = c.args.present.now in
    let old = c.args.disk.now in
    let mid = c.make_room.new.disk in
    let P : List ℕ → Type 0 = StandsFor s.start s.step (layout_of log.half) (Some state) in
    let first =
    weaker d.moment d.left_since old mid (MaySwitch s.start s.step log (Some state)) P
    (still s.start s.step log (Some state)) c.make_room.ensures.any_moment in
    joined d.moment d.left_since old mid c.append_here.new.disk P P first
    (subst (λ (l : Layout). LeavesOnly d.moment d.left_since mid c.append_here.new.disk
    (StandsFor s.start s.step l (Some state))) c.make_room.ensures.pair (c.append_here.ensures.memory_moment
    failed)) (λ x p. p)

pub returns-clause-elsewhere : goal.returns-clause-elsewhere
returns-clause-elsewhere g c =
    let d = g.D.Disk in
    let m = g.met.D.Disk in
    let log = c.args.self.now in
    let old = c.args.disk.now in
    let mid = c.make_room.new.disk in
    let new = c.append_here.new.disk in
    let first = c.make_room.ensures.elsewhere in
    let at_mid = first.each _ (m.counts_now mid (d.moment old) _ first.later (m.reads_as_image mid)) in
    let second =
    subst (λ (l : Layout). LeavesOnly d.moment d.left_since mid new
    (InHalves l (d.seen mid))) c.make_room.ensures.pair c.append_here.ensures.elsewhere in
    then_elsewhere d.moment d.left_since (layout_of log.half) old mid new (d.seen old) (d.seen mid)
    (InHalves (layout_of log.half) (d.seen mid)) first at_mid (λ x p. p) second

pub returns-in_err-make_room-clause-switching : goal.returns-in_err-make_room-clause-switching
returns-in_err-make_room-clause-switching g c failed same full =
    let d = g.D.Disk in
    let s = g.S.Stored in
    let old = c.args.disk.now in
    let new = c.make_room.new.disk in
    at_end d.moment d.left_since d.images old new
    (MaySwitch s.start s.step c.args.self.now (Some c.args.present.now))
    (λ y. g.met.D.Disk.counts_now new (d.moment old) y c.make_room.ensures.any_moment.later)
    c.make_room.ensures.any_moment

pub returns-in_err-make_room-clause-known : goal.returns-in_err-make_room-clause-known
returns-in_err-make_room-clause-known g c =
    let s = g.S.Stored in
    let result = c.from_residual.result in
    append_known s.start s.step c.make_room.new.self c.args.present.now c.args.event.now
    (g.D.Disk.images c.make_room.new.disk) result
    (let p = err_from_is_err_and result c.from_residual.ensures.1 in rw p.1 tt)
    (returns-in_err-make_room-clause-in_doubt g c)
    (λ failed. (returns-in_err-make_room-clause-memory g c failed).0)

pub returns-clause-known : goal.returns-clause-known
returns-clause-known g c =
    let s = g.S.Stored in
    append_known s.start s.step c.append_here.new.self c.args.present.now c.args.event.now
    (g.D.Disk.images c.append_here.new.disk) c.append_here.result c.append_here.ensures.acknowledged
    c.append_here.ensures.in_doubt (λ failed. (c.append_here.ensures.memory failed).0)
