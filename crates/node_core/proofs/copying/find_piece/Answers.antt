use Rattle.std.proofs.Common.{rules}
use Rattle.node_core.proofs.Names.{Areas, Extent, ap, arith, content_of, get_or, length, nat_tests, number_at, payload_at}
use Rattle.node_core.proofs.Names.{refl, subst, sym, units_of, ◌+◌, ◌-◌, ◌∙◌, ◌≡◌, ◌≤◌}
use Rattle.transfer_blocks.specs.declared.area.Area.TheVariants.{Transfer}
use Rattle.node_core.proofs.Lists.{end-err}
use Rattle.node_core.proofs.Pieces.{lie-here, lie-next, piece-next}
use Rattle.node_core.proofs.Runs.{reads-none, reads-then}
use Rattle.node_core.proofs.copying.find_piece.Goals as goal

abbrev none : Extent
none = record { place = 0; side = 0; length = 0 }

pub overflow_add-start : goal.overflow_add-start
overflow_add-start g c =
    let content = content_of (Transfer c.args.slot) (g.S.Staging.areas c.args.staging.now) in
    let here =
    lie-here content c.loop-extent.place c.loop-extent.extent-index c.args.extents.now none c.loop-extent-test.true
    c.loop-extent.invariant.lie in
    let inside = here.0 in
    let short = c.requires.short in
    omega (arith, inside, short)

pub number_at-requires-clause-lies : goal.number_at-requires-clause-lies
number_at-requires-clause-lies g c =
    let content = content_of (Transfer c.args.slot) (g.S.Staging.areas c.args.staging.now) in
    let here =
    lie-here content c.loop-extent.place c.loop-extent.extent-index c.args.extents.now none c.loop-extent-test.true
    c.loop-extent.invariant.lie in
    let inside = here.0 in
    subst (λ (a : Areas). c.loop-extent.place + 4 ≤ length (content_of (Transfer c.args.slot) a))
    (sym c.loop-extent.invariant.areas) (omega (arith, inside))

pub loop-extent-init : goal.loop-extent-init
loop-extent-init g c = record {
  piece = search rules;
  lie = search rules;
  areas = refl;
  reads = reads-none _ _ _;
  fit = c.requires.fit;
  faults = omega arith;
}

pub returns-in_err-start-clause-reads : goal.returns-in_err-start-clause-reads
returns-in_err-start-clause-reads g c =
    rw (end-err _ _ c.from_residual.ensures.1)
    (reads-then _ _ _ _ _ c.loop-extent.invariant.reads c.in_err-start.ensures.reads)

pub returns-then-left-units-clause-reads : goal.returns-then-left-units-clause-reads
returns-then-left-units-clause-reads g c =
    reads-then _ _ _ _ _ c.loop-extent.invariant.reads c.in_ok-start.ensures.reads

pub loop-extent-preserved : goal.loop-extent-preserved
loop-extent-preserved g c =
    let content = content_of (Transfer c.args.slot) (g.S.Staging.areas c.args.staging.now) in
    let at = c.loop-extent in
    let inv = at.invariant in
    let i = at.extent-index in
    let e = get_or c.args.extents.now i none in
    let number = c.in_ok-start.ensures.number
    ∙ ap (λ (a : Areas). number_at (content_of (Transfer c.args.slot) a) at.place) inv.areas in
    let next : at.place + 8 + c.in_ok-start.field-0 + c.from-size.result ≡ payload_at content at.place + e.length =
    omega (arith, number, c.from-size.ensures) in
    let done : units_of e.length ≤ at.left =
    grind (arith, nat_tests, c.units_of-units.ensures, c.if-left-units.false) in record {
      piece = piece-next content at.place at.left i c.args.extents.now none c.loop-extent-test.true done _ _
          next (ap (λ n. at.left - n) c.units_of-units.ensures.units) ∙ inv.piece;
      lie = lie-next content at.place i c.args.extents.now none c.loop-extent-test.true inv.lie _ next;
      areas = c.in_ok-start.ensures.areas ∙ inv.areas;
      reads = reads-then _ _ _ _ _ inv.reads c.in_ok-start.ensures.reads;
      fit = c.in_ok-start.ensures.fit;
      faults = let one = c.in_ok-start.ensures.faults in let all = inv.faults in omega (arith, one, all);
    }
