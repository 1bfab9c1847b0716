use Rattle.std.proofs.Common.{◌≡◌, ℕ, List, length, inl, refl, ◌∙◌, ap, subst, arith, rules}
use Rattle.std.specs.Prelude.{Result, Ok, Err, OnOk}
use Rattle.std.proofs.lemmas.Result.{on_ok_weaker}
use Rattle.disk_core.proofs.Pieces.{torn_none}
use Rattle.disk_core.proofs.Moments.{started, settled, joined}
use Rattle.disk_core.proofs.Runs.{first_run, then_run}
use Rattle.disk_area.specs.declared.area.Area.{Area}
use Rattle.disk_area.specs.Windows.{InArea}
use Rattle.checkpoint.specs.declared.layout.Layout.{Layout}
use Rattle.checkpoint.specs.Halves.{layout_of, padded}
use Rattle.checkpoint.specs.Counting.{MayClose}
use Rattle.checkpoint.specs.Quiet.{Quiet, Rewritten}
use Rattle.checkpoint.proofs.Places.{sound}
use Rattle.checkpoint.proofs.Bodies.{length-padded}
use Rattle.checkpoint.proofs.Steps.{unwritten}
use Rattle.checkpoint.proofs.Switches.{closes, stores, can_open}
use Rattle.checkpoint.proofs.writing.prepare.Goals as goal

pub returns-in_err-reserve-clause-any_moment : goal.returns-in_err-reserve-clause-any_moment
returns-in_err-reserve-clause-any_moment g c =
    let d = g.D.Disk in
    let old = c.args.disk.now in
    unwritten d.moment d.left_since d.images old (d.seen old) c.requires.nothing_pending
    (g.met.D.Disk.only_now old) (MayClose c.args.half (d.seen old))
    (record {
      outside = torn_none _ _ _;
      reads = inl refl;
      beside = refl;
    }) c.reserve.new.self c.reserve.ensures.images c.reserve.ensures.time

pub returns-clause-any_moment : goal.returns-clause-any_moment
returns-clause-any_moment g c =
    let d = g.D.Disk in
    let old = c.args.disk.now in
    let s = d.seen old in
    let start =
    unwritten d.moment d.left_since d.images old s c.requires.nothing_pending (g.met.D.Disk.only_now old)
    (MayClose c.args.half s) (record {
      outside = torn_none _ _ _;
      reads = inl refl;
      beside = refl;
    }) c.reserve.new.self c.reserve.ensures.images c.reserve.ensures.time in
    joined d.moment d.left_since old c.reserve.new.self c.rewrite.new.disk
    (MayClose c.args.half s) _ start c.rewrite.ensures.any_moment
    (λ x quiet. closes c.args.half s x c.requires.half
    (subst (λ (p : Area × List ℕ). InArea p.0 Quiet p.1 x)
    (λ i. (c.head_area.ensures.area i, c.reserve.ensures.reads i)) quiet))

pub returns-in_err-body-clause-any_moment : goal.returns-in_err-body-clause-any_moment
returns-in_err-body-clause-any_moment g c =
    let d = g.D.Disk in
    let old = c.args.disk.now in
    settled d.moment d.left_since old (d.seen old) (d.images old)
    (MayClose c.args.half (d.seen old)) c.requires.nothing_pending (g.met.D.Disk.only_now old)
    (record { outside = torn_none _ _ _; reads = inl refl; beside = refl })

pub returns-in_err-body-clause-memory_moment : goal.returns-in_err-body-clause-memory_moment
returns-in_err-body-clause-memory_moment g c failed =
    let d = g.D.Disk in
    started d.moment d.left_since c.args.disk.now (d.images c.args.disk.now) (g.met.D.Disk.only_now c.args.disk.now)

pub returns-in_err-reserve-clause-memory_moment : goal.returns-in_err-reserve-clause-memory_moment
returns-in_err-reserve-clause-memory_moment g c failed =
    let d = g.D.Disk in
    first_run d.moment d.left_since d.images c.args.disk.now c.reserve.new.self
    (g.met.D.Disk.only_now c.args.disk.now) c.reserve.ensures.images.none_new c.reserve.ensures.time

pub returns-clause-memory_moment : goal.returns-clause-memory_moment
returns-clause-memory_moment g c failed =
    let d = g.D.Disk in
    let old = c.args.disk.now in
    let mid = c.reserve.new.self in
    let first = first_run d.moment d.left_since d.images old mid
    (g.met.D.Disk.only_now old) c.reserve.ensures.images.none_new c.reserve.ensures.time in
    then_run d.moment d.left_since d.images old mid c.rewrite.new.disk first c.reserve.ensures.images.none_new
    (c.rewrite.ensures.memory_moment failed)

-- the body goes up to the journal's first byte
body_is : (half generation : ℕ) (state piece body : List ℕ) (layout : Layout) → layout ≡ layout_of half
    → piece ≡ body → body ≡ padded layout.journal_at (record { generation = generation; state = state })
    → piece ≡ padded (layout_of half).journal_at (record { generation = generation; state = state })
body_is half generation state piece body layout is same padded_is =
    same ∙ padded_is ∙ ap (λ (l : Layout). padded l.journal_at (record { generation = generation; state = state })) is

pub body_of-requires-clause-short : goal.body_of-requires-clause-short
body_of-requires-clause-short g c = omega (arith, c.requires.short, (sound c.args.half).short)

pub body_of-requires-clause-fits : goal.body_of-requires-clause-fits
body_of-requires-clause-fits g c =
    omega (
      arith,
      c.requires.short,
      (sound c.args.half).fits,
      ap
          (λ (l : Layout). l.journal_at) c.layout_of.ensures.layout,
    )

pub rewrite-requires-clause-fits : goal.rewrite-requires-clause-fits
rewrite-requires-clause-fits g c =
    let n = (layout_of c.args.half).journal_at in
    let piece =
    body_is c.args.half c.args.generation c.args.state.now _ _ c.layout_of.result c.layout_of.ensures.layout
    c.deref.ensures.value c.in_ok-body.ensures.body in
    let long : length c.deref.result.now ≡ n =
    ap length piece ∙ length-padded n (layout_of c.args.half).state_max c.args.generation c.args.state.now
    (omega (arith, (sound c.args.half).fits)) (sound c.args.half).short c.requires.short in
    omega (arith, long, ap (λ (a : Area). a.len) c.head_area.ensures.area)

pub returns-clause-memory : goal.returns-clause-memory
returns-clause-memory g c e =
    let m = c.rewrite.ensures.memory e in
    record {
      same_bytes = m.same_bytes ∙ c.reserve.ensures.reads;
      same_images = record {
        none_new = λ x now. c.reserve.ensures.images.none_new x (m.same_images.none_new x now);
        none_lost = λ x was. m.same_images.none_lost x (c.reserve.ensures.images.none_lost x was);
      };
    }

pub returns-clause-stored : goal.returns-clause-stored
returns-clause-stored g c = on_ok_weaker c.rewrite.result
    (λ w.
    let piece =
    body_is c.args.half c.args.generation c.args.state.now _ _ c.layout_of.result c.layout_of.ensures.layout
    c.deref.ensures.value c.in_ok-body.ensures.body in
    let written =
    subst (λ (p : Area × List ℕ × List ℕ). InArea p.0 (Rewritten p.1) p.2 (g.D.Disk.seen c.rewrite.new.disk))
    (λ i. (c.head_area.ensures.area i, piece i, c.reserve.ensures.reads i)) w in
    stores c.args.half (g.D.Disk.seen c.args.disk.now) _ c.requires.half c.args.generation c.args.state.now
    (search rules) c.requires.short written)
    c.rewrite.ensures.written

pub returns-clause-prepared : goal.returns-clause-prepared
returns-clause-prepared g c = on_ok_weaker c.rewrite.result
    (λ w.
    let piece =
    body_is c.args.half c.args.generation c.args.state.now _ _ c.layout_of.result c.layout_of.ensures.layout
    c.deref.ensures.value c.in_ok-body.ensures.body in
    let written =
    subst (λ (p : Area × List ℕ × List ℕ). InArea p.0 (Rewritten p.1) p.2 (g.D.Disk.seen c.rewrite.new.disk))
    (λ i. (c.head_area.ensures.area i, piece i, c.reserve.ensures.reads i)) w in
    can_open c.args.half (g.D.Disk.seen c.args.disk.now) _ c.requires.half c.args.generation c.args.state.now
    (search rules) c.requires.short written c.requires.newer)
    c.rewrite.ensures.written

-- two facts of a success
both_ok : {T E A B C : Type 0} (result : Result T E) → OnOk result A → OnOk result B → (A → B → C) → OnOk result C
both_ok (Ok t) a b both = both a b
both_ok (Err e) a b both = tt

pub returns-clause-room : goal.returns-clause-room
returns-clause-room g c = both_ok c.rewrite.result c.rewrite.ensures.writes c.rewrite.ensures.bytes
    (λ writes bytes. record {
      enough_writes = omega (arith, writes, c.in_ok-reserve.ensures.made.enough_writes);
      enough_bytes = omega (arith, bytes, c.in_ok-reserve.ensures.made.enough_bytes, c.deref.ensures.len);
    })
