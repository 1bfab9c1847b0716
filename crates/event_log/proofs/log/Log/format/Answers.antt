use Rattle.std.proofs.Common.{◌≡◌, ℕ, List, Some, Option, None, refl, sym, ◌∙◌, ap, subst, length, arith, ⊎_elim}
use Rattle.std.proofs.lemmas.Result.{err_from_is_err_and}
use Rattle.disk_area.proofs.Steps.{torn_both}
use Rattle.checkpoint.specs.Halves.{Body, HasPair, layout_of, other, half_of}
use Rattle.checkpoint.specs.Counting.{IsNewer, MayOpen}
use Rattle.checkpoint.proofs.Places.{pair_has}
use Rattle.checkpoint.proofs.Switches.{gate_in_head}
use Rattle.event_log.specs.Beside.{InHalves}
use Rattle.event_log.proofs.Steps.{opened}
use Rattle.event_log.proofs.Elsewhere.{by_head}
use Rattle.event_log.proofs.Formats.{not_begun, synced, closing, opening, other_none, in_halves}
use Rattle.event_log.proofs.Switches.{at_end}
use Rattle.event_log.proofs.log.Log.format.Goals as goal

newer_none : (generation : ℕ) (o : Option Body) → o ≡ None → IsNewer generation o
newer_none generation o none = subst (λ (o : Option Body). IsNewer generation o) (sym none) tt

still_none : (half : ℕ) (old new : List ℕ) → half_of (other half) old ≡ None → MayOpen half old new
    → half_of (other half) new ≡ None
still_none half old new none = ⊎_elim (λ closes. closes.beside ∙ none) (λ opens. opens.beside ∙ none)

pub prepare-requires-clause-inside : goal.prepare-requires-clause-inside
prepare-requires-clause-inside g c =
    pair_has c.args.half _ (subst (λ (i : List ℕ). HasPair (layout_of c.args.half) i)
    (sym c.sync.ensures.reads) c.requires.size)

pub prepare-requires-clause-newer : goal.prepare-requires-clause-newer
prepare-requires-clause-newer g c =
    let a = c.sync.new.self in
    newer_none 1 (half_of (other c.args.half) (g.D.Disk.seen a))
    (c.requires.other _ (c.sync.ensures.images _ (g.met.D.Disk.reads_as_image a)))

pub open_reserved-requires-clause-inside : goal.open_reserved-requires-clause-inside
open_reserved-requires-clause-inside g c =
    pair_has c.args.half (g.D.Disk.seen c.prepare.new.disk)
    (omega (
      arith,
      c.requires.size,
      ap (λ (i : List ℕ). length i) c.sync.ensures.reads,
      c.prepare.ensures.served.same_size,
    ))

pub returns-in_err-prepare-clause-other : goal.returns-in_err-prepare-clause-other
returns-in_err-prepare-clause-other g c =
    let d = g.D.Disk in
    let m = g.met.D.Disk in
    let a = c.sync.new.self in
    let e = c.prepare.new.disk in
    let none = c.requires.other _ (c.sync.ensures.images _ (m.reads_as_image a)) in
    let kept =
    at_end d.moment d.left_since d.images a e _
    (λ y. m.counts_now e (d.moment a) y c.prepare.ensures.any_moment.later) c.prepare.ensures.any_moment in
    let p = err_from_is_err_and c.from_residual-in_err-prepare.result c.from_residual-in_err-prepare.ensures.1 in
    rw p.1 (λ x now. (kept x now).beside ∙ none)

pub returns-in_err-open_reserved-clause-other : goal.returns-in_err-open_reserved-clause-other
returns-in_err-open_reserved-clause-other g c =
    let d = g.D.Disk in
    let m = g.met.D.Disk in
    let a = c.sync.new.self in
    let e = c.prepare.new.disk in
    let none = c.requires.other _ (c.sync.ensures.images _ (m.reads_as_image a)) in
    let kept =
    at_end d.moment d.left_since d.images a e _
    (λ y. m.counts_now e (d.moment a) y c.prepare.ensures.any_moment.later) c.prepare.ensures.any_moment in
    let f = c.open_reserved.new.disk in
    let none_e = (kept (d.seen e) (m.reads_as_image e)).beside ∙ none in
    let p = err_from_is_err_and c.from_residual-in_err-open_reserved.result
    c.from_residual-in_err-open_reserved.ensures.1 in
    rw p.1 (λ x now. still_none c.args.half (d.seen e) x none_e
    (at_end d.moment d.left_since d.images e f _
    (λ y. m.counts_now f (d.moment e) y c.open_reserved.ensures.any_moment.later) c.open_reserved.ensures.any_moment x
    now))

pub returns-clause-holds : goal.returns-clause-holds
returns-clause-holds g c x now =
    let d = g.D.Disk in
    let m = g.met.D.Disk in
    let a = c.sync.new.self in
    let e = c.prepare.new.disk in
    let none = c.requires.other _ (c.sync.ensures.images _ (m.reads_as_image a)) in
    let kept =
    at_end d.moment d.left_since d.images a e _
    (λ y. m.counts_now e (d.moment a) y c.prepare.ensures.any_moment.later) c.prepare.ensures.any_moment in
    let s = g.S.Stored in
    let none_e = (kept (d.seen e) (m.reads_as_image e)).beside ∙ none in
    let size : HasPair (layout_of c.args.half) (d.seen e) =
    omega (
      arith,
      c.requires.size,
      ap (λ (i : List ℕ). length i) c.sync.ensures.reads,
      c.prepare.ensures.served.same_size,
    ) in
    opened s.start s.step c.args.half 1 c.args.state.now (Some c.args.state.now) c.deref.result.now
    (d.seen e) x c.requires.half size (newer_none 1
    (half_of (other c.args.half) (d.seen e)) none_e) c.in_ok-prepare.ensures.stored
    (ap s.start c.deref.ensures.value ∙ c.in_ok-text.ensures.text) refl (c.in_ok-open_reserved.ensures.opened x now)

pub returns-clause-beside : goal.returns-clause-beside
returns-clause-beside g c x now =
    let d = g.D.Disk in
    let m = g.met.D.Disk in
    let a = c.sync.new.self in
    let e = c.prepare.new.disk in
    let none = c.requires.other _ (c.sync.ensures.images _ (m.reads_as_image a)) in
    let kept =
    at_end d.moment d.left_since d.images a e _
    (λ y. m.counts_now e (d.moment a) y c.prepare.ensures.any_moment.later) c.prepare.ensures.any_moment in
    let closed = kept (d.seen e) (m.reads_as_image e) in
    let opens = c.in_ok-open_reserved.ensures.opened x now in
    subst (λ (i : List ℕ). InHalves (layout_of c.args.half) i x) c.sync.ensures.reads
    (torn_both _ _ (d.seen a) (d.seen e) x (by_head c.args.half (d.seen a) (d.seen e) closed.outside)
    (by_head c.args.half (d.seen e) x (gate_in_head c.args.half (d.seen e) x opens.gate)))

pub returns-in_err-text-clause-any_moment : goal.returns-in_err-text-clause-any_moment
returns-in_err-text-clause-any_moment g c =
    let d = g.D.Disk in
    let m = g.met.D.Disk in
    let old = c.args.disk.now in
    other_none d.moment d.left_since d.images c.args.half old c.requires.other old
    (not_begun d.moment d.left_since d.images c.args.half old c.requires.other (m.only_now old))

pub returns-in_err-text-clause-elsewhere : goal.returns-in_err-text-clause-elsewhere
returns-in_err-text-clause-elsewhere g c =
    let d = g.D.Disk in
    let m = g.met.D.Disk in
    let old = c.args.disk.now in
    in_halves d.moment d.left_since d.images c.args.half old c.requires.other old
    (not_begun d.moment d.left_since d.images c.args.half old c.requires.other (m.only_now old))

pub returns-in_err-sync-clause-any_moment : goal.returns-in_err-sync-clause-any_moment
returns-in_err-sync-clause-any_moment g c =
    let d = g.D.Disk in
    let m = g.met.D.Disk in
    let old = c.args.disk.now in
    other_none d.moment d.left_since d.images c.args.half old c.requires.other c.sync.new.self
    (synced d.moment d.left_since d.images c.args.half old c.requires.other c.sync.new.self (m.only_now old)
    c.sync.ensures.images c.sync.ensures.time)

pub returns-in_err-sync-clause-elsewhere : goal.returns-in_err-sync-clause-elsewhere
returns-in_err-sync-clause-elsewhere g c =
    let d = g.D.Disk in
    let m = g.met.D.Disk in
    let old = c.args.disk.now in
    in_halves d.moment d.left_since d.images c.args.half old c.requires.other c.sync.new.self
    (synced d.moment d.left_since d.images c.args.half old c.requires.other c.sync.new.self (m.only_now old)
    c.sync.ensures.images c.sync.ensures.time)

pub returns-in_err-prepare-clause-any_moment : goal.returns-in_err-prepare-clause-any_moment
returns-in_err-prepare-clause-any_moment g c =
    let d = g.D.Disk in
    let m = g.met.D.Disk in
    let old = c.args.disk.now in
    let a = c.sync.new.self in
    let e = c.prepare.new.disk in
    let s = d.seen a in
    let now = c.sync.ensures.images s (m.reads_as_image a) in
    let so_far = synced d.moment d.left_since d.images c.args.half old c.requires.other a (m.only_now old)
    c.sync.ensures.images c.sync.ensures.time in
    let closes = closing d.moment d.left_since d.images c.args.half old c.requires.other a e s now so_far
    c.prepare.ensures.any_moment in
    other_none d.moment d.left_since d.images c.args.half old c.requires.other e closes

pub returns-in_err-prepare-clause-elsewhere : goal.returns-in_err-prepare-clause-elsewhere
returns-in_err-prepare-clause-elsewhere g c =
    let d = g.D.Disk in
    let m = g.met.D.Disk in
    let old = c.args.disk.now in
    let a = c.sync.new.self in
    let e = c.prepare.new.disk in
    let s = d.seen a in
    let now = c.sync.ensures.images s (m.reads_as_image a) in
    let so_far = synced d.moment d.left_since d.images c.args.half old c.requires.other a (m.only_now old)
    c.sync.ensures.images c.sync.ensures.time in
    let closes = closing d.moment d.left_since d.images c.args.half old c.requires.other a e s now so_far
    c.prepare.ensures.any_moment in
    in_halves d.moment d.left_since d.images c.args.half old c.requires.other e closes

pub returns-in_err-open_reserved-clause-any_moment : goal.returns-in_err-open_reserved-clause-any_moment
returns-in_err-open_reserved-clause-any_moment g c =
    let d = g.D.Disk in
    let m = g.met.D.Disk in
    let old = c.args.disk.now in
    let a = c.sync.new.self in
    let e = c.prepare.new.disk in
    let s = d.seen a in
    let now = c.sync.ensures.images s (m.reads_as_image a) in
    let so_far = synced d.moment d.left_since d.images c.args.half old c.requires.other a (m.only_now old)
    c.sync.ensures.images c.sync.ensures.time in
    let closes = closing d.moment d.left_since d.images c.args.half old c.requires.other a e s now so_far
    c.prepare.ensures.any_moment in
    let f = c.open_reserved.new.disk in
    let kept =
    at_end d.moment d.left_since d.images a e _
    (λ y. m.counts_now e (d.moment a) y c.prepare.ensures.any_moment.later) c.prepare.ensures.any_moment in
    other_none d.moment d.left_since d.images c.args.half old c.requires.other f
    (opening d.moment d.left_since d.images c.args.half old c.requires.other e f s (d.seen e) now
    (kept (d.seen e) (m.reads_as_image e)) closes c.open_reserved.ensures.any_moment)

pub returns-in_err-open_reserved-clause-elsewhere : goal.returns-in_err-open_reserved-clause-elsewhere
returns-in_err-open_reserved-clause-elsewhere g c =
    let d = g.D.Disk in
    let m = g.met.D.Disk in
    let old = c.args.disk.now in
    let a = c.sync.new.self in
    let e = c.prepare.new.disk in
    let s = d.seen a in
    let now = c.sync.ensures.images s (m.reads_as_image a) in
    let so_far = synced d.moment d.left_since d.images c.args.half old c.requires.other a (m.only_now old)
    c.sync.ensures.images c.sync.ensures.time in
    let closes = closing d.moment d.left_since d.images c.args.half old c.requires.other a e s now so_far
    c.prepare.ensures.any_moment in
    let f = c.open_reserved.new.disk in
    let kept =
    at_end d.moment d.left_since d.images a e _
    (λ y. m.counts_now e (d.moment a) y c.prepare.ensures.any_moment.later) c.prepare.ensures.any_moment in
    in_halves d.moment d.left_since d.images c.args.half old c.requires.other f
    (opening d.moment d.left_since d.images c.args.half old c.requires.other e f s (d.seen e) now
    (kept (d.seen e) (m.reads_as_image e)) closes c.open_reserved.ensures.any_moment)

pub returns-clause-any_moment : goal.returns-clause-any_moment
returns-clause-any_moment g c =
    let d = g.D.Disk in
    let m = g.met.D.Disk in
    let old = c.args.disk.now in
    let a = c.sync.new.self in
    let e = c.prepare.new.disk in
    let s = d.seen a in
    let now = c.sync.ensures.images s (m.reads_as_image a) in
    let so_far = synced d.moment d.left_since d.images c.args.half old c.requires.other a (m.only_now old)
    c.sync.ensures.images c.sync.ensures.time in
    let closes = closing d.moment d.left_since d.images c.args.half old c.requires.other a e s now so_far
    c.prepare.ensures.any_moment in
    let f = c.open_reserved.new.disk in
    let kept =
    at_end d.moment d.left_since d.images a e _
    (λ y. m.counts_now e (d.moment a) y c.prepare.ensures.any_moment.later) c.prepare.ensures.any_moment in
    other_none d.moment d.left_since d.images c.args.half old c.requires.other f
    (opening d.moment d.left_since d.images c.args.half old c.requires.other e f s (d.seen e) now
    (kept (d.seen e) (m.reads_as_image e)) closes c.open_reserved.ensures.any_moment)

pub returns-clause-elsewhere : goal.returns-clause-elsewhere
returns-clause-elsewhere g c =
    let d = g.D.Disk in
    let m = g.met.D.Disk in
    let old = c.args.disk.now in
    let a = c.sync.new.self in
    let e = c.prepare.new.disk in
    let s = d.seen a in
    let now = c.sync.ensures.images s (m.reads_as_image a) in
    let so_far = synced d.moment d.left_since d.images c.args.half old c.requires.other a (m.only_now old)
    c.sync.ensures.images c.sync.ensures.time in
    let closes = closing d.moment d.left_since d.images c.args.half old c.requires.other a e s now so_far
    c.prepare.ensures.any_moment in
    let f = c.open_reserved.new.disk in
    let kept =
    at_end d.moment d.left_since d.images a e _
    (λ y. m.counts_now e (d.moment a) y c.prepare.ensures.any_moment.later) c.prepare.ensures.any_moment in
    in_halves d.moment d.left_since d.images c.args.half old c.requires.other f
    (opening d.moment d.left_since d.images c.args.half old c.requires.other e f s (d.seen e) now
    (kept (d.seen e) (m.reads_as_image e)) closes c.open_reserved.ensures.any_moment)
