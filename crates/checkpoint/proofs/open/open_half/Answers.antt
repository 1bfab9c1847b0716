use Rattle.std.proofs.Common.{ℕ, List, inl, subst}
use Rattle.disk_core.proofs.Runs.{first_run}
use Rattle.disk_core.proofs.Moments.{joined}
use Rattle.disk_core.specs.Moments.{LeavesOnly}
use Rattle.checkpoint.specs.Counting.{MayOpen, Opens}
use Rattle.checkpoint.proofs.Steps.{unwritten}
use Rattle.checkpoint.proofs.Switches.{still_shut}
use Rattle.checkpoint.proofs.open.open_half.Goals as goal

pub returns-in_err-reserve-clause-memory_moment : goal.returns-in_err-reserve-clause-memory_moment
returns-in_err-reserve-clause-memory_moment g c failed =
    let d = g.D.Disk in
    first_run d.moment d.left_since d.images c.args.disk.now c.reserve.new.self
    (g.met.D.Disk.only_now c.args.disk.now) c.reserve.ensures.images.none_new c.reserve.ensures.time

pub returns-in_err-reserve-clause-any_moment : goal.returns-in_err-reserve-clause-any_moment
returns-in_err-reserve-clause-any_moment g c =
    let d = g.D.Disk in
    let old = c.args.disk.now in
    let s = d.seen old in
    unwritten d.moment d.left_since d.images old s c.requires.nothing_pending
    (g.met.D.Disk.only_now old) (MayOpen c.args.half s)
    (inl (still_shut c.args.half s s c.requires.half c.requires.prepared))
    c.reserve.new.self c.reserve.ensures.images c.reserve.ensures.time

pub open_reserved-requires-clause-inside : goal.open_reserved-requires-clause-inside
open_reserved-requires-clause-inside g c =
    rw c.reserve.ensures.reads c.requires.inside

pub open_reserved-requires-clause-prepared : goal.open_reserved-requires-clause-prepared
open_reserved-requires-clause-prepared g c =
    rw c.reserve.ensures.reads c.requires.prepared

pub returns-in_err-open_reserved-clause-any_moment : goal.returns-in_err-open_reserved-clause-any_moment
returns-in_err-open_reserved-clause-any_moment g c =
    let d = g.D.Disk in
    let old = c.args.disk.now in
    let mid = c.reserve.new.self in
    let s = d.seen old in
    let start =
    unwritten d.moment d.left_since d.images old s c.requires.nothing_pending (g.met.D.Disk.only_now old)
    (MayOpen c.args.half s) (inl (still_shut c.args.half s s c.requires.half c.requires.prepared))
    mid c.reserve.ensures.images c.reserve.ensures.time in
    joined d.moment d.left_since old mid c.open_reserved.new.disk (MayOpen c.args.half s) (MayOpen c.args.half s) start
    (subst (λ (b : List ℕ). LeavesOnly d.moment d.left_since mid c.open_reserved.new.disk (MayOpen c.args.half b))
    c.reserve.ensures.reads c.open_reserved.ensures.any_moment) (λ x may. may)

pub returns-clause-any_moment : goal.returns-clause-any_moment
returns-clause-any_moment g c =
    let d = g.D.Disk in
    let old = c.args.disk.now in
    let mid = c.reserve.new.self in
    let s = d.seen old in
    let start =
    unwritten d.moment d.left_since d.images old s c.requires.nothing_pending (g.met.D.Disk.only_now old)
    (MayOpen c.args.half s) (inl (still_shut c.args.half s s c.requires.half c.requires.prepared))
    mid c.reserve.ensures.images c.reserve.ensures.time in
    joined d.moment d.left_since old mid c.open_reserved.new.disk (MayOpen c.args.half s) (MayOpen c.args.half s) start
    (subst (λ (b : List ℕ). LeavesOnly d.moment d.left_since mid c.open_reserved.new.disk (MayOpen c.args.half b))
    c.reserve.ensures.reads c.open_reserved.ensures.any_moment) (λ x may. may)

pub returns-clause-opened : goal.returns-clause-opened
returns-clause-opened g c x now =
    subst (λ (b : List ℕ). Opens c.args.half b x) c.reserve.ensures.reads (c.in_ok-open_reserved.ensures.opened x now)
