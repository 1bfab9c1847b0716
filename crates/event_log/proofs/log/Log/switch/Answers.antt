use Rattle.std.proofs.Common.{◌≡◌, ◌+◌, length, ℕ, List, Some, refl, sym, ◌∙◌, subst, arith, ap}
use Rattle.std.proofs.lemmas.Result.{err_from_is_err_and}
use Rattle.disk_core.specs.Moments.{LeavesOnly}
use Rattle.disk_core.proofs.Moments.{weaker}
use Rattle.checkpoint.specs.Halves.{HasPair, layout_of, other, half_of, stored_in}
use Rattle.checkpoint.specs.Counting.{IsNewer, MayClose, MayOpen}
use Rattle.checkpoint.specs.declared.layout.Layout.{Layout}
use Rattle.checkpoint.proofs.Places.{other_below, other_has, other_layout}
use Rattle.event_log.specs.Beside.{InHalves}
use Rattle.event_log.proofs.Elsewhere.{nowhere, by_closing, by_opening, then_elsewhere}
use Rattle.event_log.proofs.Steps.{newer, kept, opened}
use Rattle.event_log.proofs.Switches.{not_begun, prepared, opening}
use Rattle.event_log.proofs.log.Log.switch.Goals as goal

pub returns-then-self-clause-any_moment : goal.returns-then-self-clause-any_moment
returns-then-self-clause-any_moment g c =
    let d = g.D.Disk in
    not_begun d.moment d.left_since d.images g.S.Stored.start g.S.Stored.step c.args.self.now
    (Some c.args.present.now) c.args.disk.now c.requires.holds (g.met.D.Disk.only_now c.args.disk.now)

pub returns-then-self-clause-elsewhere : goal.returns-then-self-clause-elsewhere
returns-then-self-clause-elsewhere g c =
    let d = g.D.Disk in
    nowhere d.moment d.left_since d.images (layout_of c.args.self.now.half) c.args.disk.now
    (d.seen c.args.disk.now) c.requires.durable (g.met.D.Disk.only_now c.args.disk.now)

pub other-half-requires : goal.other-half-requires
other-half-requires g c = (c.requires.holds _ (g.met.D.Disk.reads_as_image c.args.disk.now)).stands.half

pub returns-in_err-text-clause-any_moment : goal.returns-in_err-text-clause-any_moment
returns-in_err-text-clause-any_moment g c =
    let d = g.D.Disk in
    not_begun d.moment d.left_since d.images g.S.Stored.start g.S.Stored.step c.args.self.now
    (Some c.args.present.now) c.args.disk.now c.requires.holds (g.met.D.Disk.only_now c.args.disk.now)

pub returns-in_err-text-clause-elsewhere : goal.returns-in_err-text-clause-elsewhere
returns-in_err-text-clause-elsewhere g c =
    let d = g.D.Disk in
    nowhere d.moment d.left_since d.images (layout_of c.args.self.now.half) c.args.disk.now
    (d.seen c.args.disk.now) c.requires.durable (g.met.D.Disk.only_now c.args.disk.now)

pub prepare-requires-clause-half : goal.prepare-requires-clause-half
prepare-requires-clause-half g c =
    other_below c.args.self.now.half _ (c.requires.holds _
    (g.met.D.Disk.reads_as_image c.args.disk.now)).stands.half c.other-half.ensures

pub prepare-requires-clause-inside : goal.prepare-requires-clause-inside
prepare-requires-clause-inside g c =
    let held = c.requires.holds _ (g.met.D.Disk.reads_as_image c.args.disk.now) in
    other_has c.args.self.now.half _ _ held.stands.half c.other-half.ensures held.stands.size

pub prepare-requires-clause-short : goal.prepare-requires-clause-short
prepare-requires-clause-short g c =
    let held = c.requires.holds _ (g.met.D.Disk.reads_as_image c.args.disk.now) in
    omega (
      arith,
      ap (λ (xs : List ℕ). length xs) c.deref.ensures.value,
      c.in_ok-text.ensures.short,
      c.requires.long,
      ap (λ (l : Layout). l.state_max)
          (other_layout c.args.self.now.half _ held.stands.half c.other-half.ensures),
    )

pub prepare-requires-clause-newer : goal.prepare-requires-clause-newer
prepare-requires-clause-newer g c =
    let image = g.D.Disk.seen c.args.disk.now in
    let held = c.requires.holds _ (g.met.D.Disk.reads_as_image c.args.disk.now) in
    subst (λ (h : ℕ). IsNewer (c.args.self.now.generation + 1) (half_of (other h) image))
    (sym c.other-half.ensures) (newer g.S.Stored.start g.S.Stored.step c.args.self.now held.text _ held.stands)

pub returns-in_err-prepare-clause-any_moment : goal.returns-in_err-prepare-clause-any_moment
returns-in_err-prepare-clause-any_moment g c =
    let d = g.D.Disk in
    let old = c.args.disk.now in
    let mid = c.prepare.new.disk in
    let closing =
    subst (λ (h : ℕ). LeavesOnly d.moment d.left_since old mid
    (MayClose h (d.seen old))) c.other-half.ensures c.prepare.ensures.any_moment in
    prepared d.moment d.left_since d.images g.S.Stored.start g.S.Stored.step c.args.self.now
    (Some c.args.present.now) old c.requires.holds mid (d.seen old)
    (c.requires.holds _ (g.met.D.Disk.reads_as_image old)) closing

pub returns-in_err-prepare-clause-memory : goal.returns-in_err-prepare-clause-memory
returns-in_err-prepare-clause-memory g c =
    let p = err_from_is_err_and c.from_residual-in_err-prepare.result c.from_residual-in_err-prepare.ensures.1 in
    rw (p.1, p.2) (λ failed.
    let same = c.in_err-prepare.ensures.memory failed in (
      λ x now. c.requires.holds x (same.same_images.none_new x now),
      λ x now. c.requires.durable x
          (same.same_images.none_new x now) ∙ sym same.same_bytes,
    ))

pub returns-in_err-prepare-clause-elsewhere : goal.returns-in_err-prepare-clause-elsewhere
returns-in_err-prepare-clause-elsewhere g c =
    let d = g.D.Disk in
    let log = c.args.self.now in
    let old = c.args.disk.now in
    let mid = c.prepare.new.disk in
    let closing =
    subst (λ (h : ℕ). LeavesOnly d.moment d.left_since old mid
    (MayClose h (d.seen old))) c.other-half.ensures c.prepare.ensures.any_moment in
    weaker d.moment d.left_since old mid (MayClose (other log.half) (d.seen old))
    (InHalves (layout_of log.half) (d.seen old)) (by_closing log.half (d.seen old)) closing

pub open_reserved-requires-clause-half : goal.open_reserved-requires-clause-half
open_reserved-requires-clause-half g c =
    other_below c.args.self.now.half _ (c.requires.holds _
    (g.met.D.Disk.reads_as_image c.args.disk.now)).stands.half c.other-half.ensures

pub open_reserved-requires-clause-inside : goal.open_reserved-requires-clause-inside
open_reserved-requires-clause-inside g c =
    let held = c.requires.holds _ (g.met.D.Disk.reads_as_image c.args.disk.now) in
    other_has c.args.self.now.half _ (g.D.Disk.seen c.prepare.new.disk) held.stands.half c.other-half.ensures
    (omega (arith, c.prepare.ensures.served.same_size, held.stands.size))

pub returns-in_err-open_reserved-clause-any_moment : goal.returns-in_err-open_reserved-clause-any_moment
returns-in_err-open_reserved-clause-any_moment g c =
    let d = g.D.Disk in
    let m = g.met.D.Disk in
    let s = g.S.Stored in
    let log = c.args.self.now in
    let old = c.args.disk.now in
    let mid = c.prepare.new.disk in
    let new = c.open_reserved.new.disk in
    let state = Some c.args.present.now in
    let held = c.requires.holds _ (m.reads_as_image old) in
    let closing =
    subst (λ (h : ℕ). LeavesOnly d.moment d.left_since old mid
    (MayClose h (d.seen old))) c.other-half.ensures c.prepare.ensures.any_moment in
    let mid_held =
    kept s.start s.step log state (d.seen old) (d.seen mid) held
    (closing.each _ (m.counts_now mid (d.moment old) _ closing.later (m.reads_as_image mid))) in
    let first =
    prepared d.moment d.left_since d.images s.start s.step log state old c.requires.holds mid
    (d.seen old) held closing in
    let stored =
    subst (λ (h : ℕ). stored_in h (d.seen mid) ≡ Some
    (record {
      generation = log.generation + 1;
      state = c.deref.result.now;
    })) c.other-half.ensures c.in_ok-prepare.ensures.stored in
    let opens =
    subst (λ (h : ℕ). LeavesOnly d.moment d.left_since mid new
    (MayOpen h (d.seen mid))) c.other-half.ensures c.open_reserved.ensures.any_moment in
    opening d.moment d.left_since d.images s.start s.step log state old c.requires.holds mid new c.args.present.now
    c.deref.result.now (d.seen mid) mid_held stored (ap s.start c.deref.ensures.value
    ∙ c.in_ok-text.ensures.text) refl first opens

pub returns-in_err-open_reserved-clause-elsewhere : goal.returns-in_err-open_reserved-clause-elsewhere
returns-in_err-open_reserved-clause-elsewhere g c =
    let d = g.D.Disk in
    let m = g.met.D.Disk in
    let log = c.args.self.now in
    let old = c.args.disk.now in
    let mid = c.prepare.new.disk in
    let new = c.open_reserved.new.disk in
    let closing =
    subst (λ (h : ℕ). LeavesOnly d.moment d.left_since old mid
    (MayClose h (d.seen old))) c.other-half.ensures c.prepare.ensures.any_moment in
    let opens =
    subst (λ (h : ℕ). LeavesOnly d.moment d.left_since mid new
    (MayOpen h (d.seen mid))) c.other-half.ensures c.open_reserved.ensures.any_moment in
    let first =
    weaker d.moment d.left_since old mid (MayClose (other log.half) (d.seen old))
    (InHalves (layout_of log.half) (d.seen old)) (by_closing log.half (d.seen old)) closing in
    let at_mid = first.each _ (m.counts_now mid (d.moment old) _ first.later (m.reads_as_image mid)) in
    then_elsewhere d.moment d.left_since (layout_of log.half) old mid new (d.seen old) (d.seen mid)
    (MayOpen (other log.half) (d.seen mid)) first at_mid (by_opening log.half (d.seen mid)) opens

pub returns-clause-any_moment : goal.returns-clause-any_moment
returns-clause-any_moment g c =
    let d = g.D.Disk in
    let m = g.met.D.Disk in
    let s = g.S.Stored in
    let log = c.args.self.now in
    let old = c.args.disk.now in
    let mid = c.prepare.new.disk in
    let new = c.open_reserved.new.disk in
    let state = Some c.args.present.now in
    let held = c.requires.holds _ (m.reads_as_image old) in
    let closing =
    subst (λ (h : ℕ). LeavesOnly d.moment d.left_since old mid
    (MayClose h (d.seen old))) c.other-half.ensures c.prepare.ensures.any_moment in
    let mid_held =
    kept s.start s.step log state (d.seen old) (d.seen mid) held
    (closing.each _ (m.counts_now mid (d.moment old) _ closing.later (m.reads_as_image mid))) in
    let first =
    prepared d.moment d.left_since d.images s.start s.step log state old c.requires.holds mid
    (d.seen old) held closing in
    let stored =
    subst (λ (h : ℕ). stored_in h (d.seen mid) ≡ Some
    (record {
      generation = log.generation + 1;
      state = c.deref.result.now;
    })) c.other-half.ensures c.in_ok-prepare.ensures.stored in
    let opens =
    subst (λ (h : ℕ). LeavesOnly d.moment d.left_since mid new
    (MayOpen h (d.seen mid))) c.other-half.ensures c.open_reserved.ensures.any_moment in
    opening d.moment d.left_since d.images s.start s.step log state old c.requires.holds mid new c.args.present.now
    c.deref.result.now (d.seen mid) mid_held stored (ap s.start c.deref.ensures.value
    ∙ c.in_ok-text.ensures.text) refl first opens

pub returns-clause-elsewhere : goal.returns-clause-elsewhere
returns-clause-elsewhere g c =
    let d = g.D.Disk in
    let m = g.met.D.Disk in
    let log = c.args.self.now in
    let old = c.args.disk.now in
    let mid = c.prepare.new.disk in
    let new = c.open_reserved.new.disk in
    let closing =
    subst (λ (h : ℕ). LeavesOnly d.moment d.left_since old mid
    (MayClose h (d.seen old))) c.other-half.ensures c.prepare.ensures.any_moment in
    let opens =
    subst (λ (h : ℕ). LeavesOnly d.moment d.left_since mid new
    (MayOpen h (d.seen mid))) c.other-half.ensures c.open_reserved.ensures.any_moment in
    let first =
    weaker d.moment d.left_since old mid (MayClose (other log.half) (d.seen old))
    (InHalves (layout_of log.half) (d.seen old)) (by_closing log.half (d.seen old)) closing in
    let at_mid = first.each _ (m.counts_now mid (d.moment old) _ first.later (m.reads_as_image mid)) in
    then_elsewhere d.moment d.left_since (layout_of log.half) old mid new (d.seen old) (d.seen mid)
    (MayOpen (other log.half) (d.seen mid)) first at_mid (by_opening log.half (d.seen mid)) opens

pub returns-clause-holds : goal.returns-clause-holds
returns-clause-holds g c x now =
    let d = g.D.Disk in
    let m = g.met.D.Disk in
    let s = g.S.Stored in
    let log = c.args.self.now in
    let old = c.args.disk.now in
    let mid = c.prepare.new.disk in
    let new = c.open_reserved.new.disk in
    let state = Some c.args.present.now in
    let held = c.requires.holds _ (m.reads_as_image old) in
    let closing =
    subst (λ (h : ℕ). LeavesOnly d.moment d.left_since old mid
    (MayClose h (d.seen old))) c.other-half.ensures c.prepare.ensures.any_moment in
    let mid_held =
    kept s.start s.step log state (d.seen old) (d.seen mid) held
    (closing.each _ (m.counts_now mid (d.moment old) _ closing.later (m.reads_as_image mid))) in
    let half = c.other-half.result in
    let lt = other_below log.half half held.stands.half c.other-half.ensures in
    let size =
    subst (λ (l : Layout). HasPair l (d.seen mid))
    (sym (other_layout log.half half held.stands.half c.other-half.ensures)) mid_held.stands.size in
    let above =
    subst (λ (h : ℕ). IsNewer (log.generation + 1) (half_of (other h) (d.seen mid))) (sym c.other-half.ensures)
    (newer s.start s.step log mid_held.text (d.seen mid) mid_held.stands) in
    opened s.start s.step half (log.generation + 1) c.args.present.now state c.deref.result.now
    (d.seen mid) x lt size above c.in_ok-prepare.ensures.stored (ap s.start c.deref.ensures.value
    ∙ c.in_ok-text.ensures.text) refl (c.in_ok-open_reserved.ensures.opened x now)

pub returns-clause-pair : goal.returns-clause-pair
returns-clause-pair g c =
    other_layout c.args.self.now.half _ (c.requires.holds _
    (g.met.D.Disk.reads_as_image c.args.disk.now)).stands.half c.other-half.ensures
