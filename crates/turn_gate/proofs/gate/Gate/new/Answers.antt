use Rattle.std.proofs.Common.{arith, ◌≡◌, suc, ◌++◌, ◌∙◌, ap, subst, sym, drop, length}
use native.Mathlib.Numerals.{unary_clauses}
use Rattle.turn_gate.specs.Parts.{parts_of}
use Rattle.turn_gate.specs.Seats.{one_each}
use Rattle.turn_gate.specs.Views.{fixed_by, first_view}
use Rattle.turn_gate.proofs.Gathers.{deals_one, at_drop, no_more}
use Rattle.turn_gate.proofs.gate.Gate.new.Goals as goal

pub loop-part-preserved : goal.loop-part-preserved
loop-part-preserved g c = simp unary_clauses (
    let ns = c.args.parts.now in
    let i = c.loop-part.part-index in
    let a = g.M.Machine.account c.args.machine in
    let base = first_view (fixed_by g.M.Machine.opening g.M.Machine.fixed g.M.Machine.account c.args.machine ns) a in
    let gate = c.in_ok-gate.gate in
    let was = c.loop-part.invariant in
    let at = at_drop ns i c.loop-part-test.true in
    let one = deals_one g.M.Machine.tells a _ gate c.loop-part.seats.items c.loop-part.seat.view c.split.result _
    (drop (suc i) ns) ns (no_more ns i c.requires.parts_differ c.loop-part-test.true)
    (was.view ∙ ap (λ l. base (parts_of g.M.Machine.tells a l)) at)
    c.split.ensures.same_gate.1 c.split.ensures.moved
    (ap (λ l. c.loop-part.seats.items ++ one_each gate base (parts_of g.M.Machine.tells a l)) (sym at) ∙ was.dealt) in
    record {
      gate = c.split.ensures.same_gate.0;
      view = c.split.ensures.left ∙ one.0;
      dealt =
          subst (λ l. l ++ one_each gate base (parts_of g.M.Machine.tells a (drop (suc i) ns))
          ≡ one_each gate base (parts_of g.M.Machine.tells a ns)) (sym c.push_reserved.ensures.items) one.1;
      room = (let len = ap length at in omega (arith, was.room, len, c.push_reserved.ensures.len));
    })
