use Rattle.std.proofs.Common.{◌≡◌, ℕ, List, [], ◌∷◌, length, get_or, inl, refl, sym, ◌∙◌, subst, arith}
use Rattle.disk_core.specs.Bytes.{Puts, Torn}
use Rattle.disk_core.proofs.Runs.{first_run}
use Rattle.disk_area.specs.Windows.{window, InArea}
use Rattle.disk_area.proofs.Windows.{length-window}
use Rattle.disk_area.proofs.Steps.{stays, as_step}
use Rattle.checkpoint.specs.Quiet.{Quiet, Shut}
use Rattle.checkpoint.proofs.Gates.{closing, gate_closed}
use Rattle.checkpoint.proofs.Bodies.{gate_of}
use Rattle.checkpoint.proofs.Steps.{unwritten, stepped}
use Rattle.checkpoint.proofs.writing.close.Goals as goal

pub returns-in_err-gate-clause-any_moment : goal.returns-in_err-gate-clause-any_moment
returns-in_err-gate-clause-any_moment g c =
    let d = g.D.Disk in
    let old = c.args.disk.now in
    unwritten d.moment d.left_since d.images old (d.seen old) c.requires.nothing_pending
    (g.met.D.Disk.only_now old) (InArea c.args.area Quiet (d.seen old))
    (stays c.args.area Quiet (d.seen old) (λ most. inl refl)) c.read.new.disk c.read.ensures.images
    c.read.ensures.time

pub returns-in_err-gate-clause-memory_moment : goal.returns-in_err-gate-clause-memory_moment
returns-in_err-gate-clause-memory_moment g c failed =
    let d = g.D.Disk in
    first_run d.moment d.left_since d.images c.args.disk.now c.read.new.disk
    (g.met.D.Disk.only_now c.args.disk.now) c.read.ensures.images.none_new c.read.ensures.time

pub returns-then-index-ne1-clause-any_moment : goal.returns-then-index-ne1-clause-any_moment
returns-then-index-ne1-clause-any_moment g c =
    let d = g.D.Disk in
    let old = c.args.disk.now in
    unwritten d.moment d.left_since d.images old (d.seen old) c.requires.nothing_pending
    (g.met.D.Disk.only_now old) (InArea c.args.area Quiet (d.seen old))
    (stays c.args.area Quiet (d.seen old) (λ most. inl refl)) c.read.new.disk c.read.ensures.images
    c.read.ensures.time

pub returns-then-index-ne1-clause-shut : goal.returns-then-index-ne1-clause-shut
returns-then-index-ne1-clause-shut g c =
    let area = c.args.area in
    let s = g.D.Disk.seen c.args.disk.now in
    let long : length (window area s) ≡ area.len = length-window area s c.requires.inside in
    let read = c.in_ok-gate.ensures in
    let gate : c.index.result.now ≡ get_or (window area s) 0 0 =
    gate_of (window area s) c.in_ok-gate.gate.items 1 c.index.result.now (omega arith)
    (omega (arith, long, c.requires.fits)) read.bytes c.index.ensures in
    subst (λ (x : List ℕ). InArea area Shut s x) (sym c.read.ensures.reads)
    (stays area Shut s (record { size = refl; shut = λ one. c.if-index-ne1.true (gate ∙ one) }))

pub returns-in_err-write_synced-clause-any_moment : goal.returns-in_err-write_synced-clause-any_moment
returns-in_err-write_synced-clause-any_moment g c =
    let d = g.D.Disk in
    let old = c.args.disk.now in
    let area = c.args.area in
    let s = d.seen old in
    let long : length (window area s) ≡ area.len = length-window area s c.requires.inside in
    let read = c.in_ok-gate.ensures in
    let gate : c.index.result.now ≡ get_or (window area s) 0 0 =
    gate_of (window area s) c.in_ok-gate.gate.items 1 c.index.result.now (omega arith)
    (omega (arith, long, c.requires.fits)) read.bytes c.index.ensures in
    let so_far =
    unwritten d.moment d.left_since d.images old s c.requires.nothing_pending (g.met.D.Disk.only_now old)
    (InArea area Quiet s) (stays area Quiet s
    (λ most. inl refl)) c.read.new.disk c.read.ensures.images c.read.ensures.time in
    stepped d.moment d.left_since d.images old s c.requires.nothing_pending (g.met.D.Disk.only_now old)
    (InArea area Quiet s) (stays area Quiet s (λ most. inl refl)) c.read.new.disk c.write_synced.new.disk
    (InArea area (Torn 0 1)) c.read.ensures.images so_far c.write_synced.ensures.any_moment
    (λ x torn. as_step area (Torn 0 1) Quiet s x torn
    (closing (window area s) (window area x) (sym gate ∙ c.if-index-ne1.false)))

pub returns-clause-any_moment : goal.returns-clause-any_moment
returns-clause-any_moment g c =
    let d = g.D.Disk in
    let old = c.args.disk.now in
    let area = c.args.area in
    let s = d.seen old in
    let long : length (window area s) ≡ area.len = length-window area s c.requires.inside in
    let read = c.in_ok-gate.ensures in
    let gate : c.index.result.now ≡ get_or (window area s) 0 0 =
    gate_of (window area s) c.in_ok-gate.gate.items 1 c.index.result.now (omega arith)
    (omega (arith, long, c.requires.fits)) read.bytes c.index.ensures in
    let so_far =
    unwritten d.moment d.left_since d.images old s c.requires.nothing_pending (g.met.D.Disk.only_now old)
    (InArea area Quiet s) (stays area Quiet s
    (λ most. inl refl)) c.read.new.disk c.read.ensures.images c.read.ensures.time in
    stepped d.moment d.left_since d.images old s c.requires.nothing_pending (g.met.D.Disk.only_now old)
    (InArea area Quiet s) (stays area Quiet s (λ most. inl refl)) c.read.new.disk c.write_synced.new.disk
    (InArea area (Torn 0 1)) c.read.ensures.images so_far c.write_synced.ensures.any_moment
    (λ x torn. as_step area (Torn 0 1) Quiet s x torn
    (closing (window area s) (window area x) (sym gate ∙ c.if-index-ne1.false)))

pub returns-clause-shut : goal.returns-clause-shut
returns-clause-shut g c =
    let d = g.D.Disk in
    let area = c.args.area in
    let s = d.seen c.args.disk.now in
    let x = d.seen c.write_synced.new.disk in
    let long : length (window area s) ≡ area.len = length-window area s c.requires.inside in
    let put =
    subst (λ (b : List ℕ). InArea area (Puts 0 (0 ∷ [])) b x) c.read.ensures.reads
    (c.in_ok-write_synced.ensures.written x (g.met.D.Disk.reads_as_image c.write_synced.new.disk)) in
    as_step area (Puts 0 (0 ∷ [])) Shut s x put
    (gate_closed (window area s) (window area x) (omega (arith, long, c.requires.fits)))
