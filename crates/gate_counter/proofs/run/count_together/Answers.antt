use Rattle.std.proofs.Common.{refl, ◌∙◌, [], sym, ap, subst, IfSome}
use Rattle.turn_gate.specs.Parts.{TellsOnly}
use Rattle.gate_counter.specs.Counters.{account_of}
use Rattle.gate_counter.specs.Seats.{AreSeatsOf}
use Rattle.turn_gate.specs.Seats.{fixed_in}
use Rattle.turn_gate.specs.Views.{account, fixed_to}
use Rattle.gate_counter.specs.Ticks.{tells}
use Rattle.gate_counter.proofs.Rows.{at_first, all_rest, have_all, fixed_first}
use Rattle.gate_counter.proofs.run.count_together.Goals as goal

pub count_beside-seats-requires-clause-ours : goal.count_beside-seats-requires-clause-ours
count_beside-seats-requires-clause-ours g c κs within =
    let it = c.new-counter.result in
    subst (AreSeatsOf c.in-Ok.gate c.args.parts.now) (sym c.in-Ok.ensures.one_seat_each)
    (at_first c.in-Ok.gate (fixed_to 0 [] it.faults c.args.parts.now) tells
    (account it.ticks.items it.pending it.faults) c.args.parts.now)

pub close-requires-clause-rest : goal.close-requires-clause-rest
close-requires-clause-rest g c =
    all_rest c.in-Ok.gate c.args.parts.now c.count_beside-seats.result.items c.count_beside-seats.ensures.ours

pub close-requires-clause-all_parts : goal.close-requires-clause-all_parts
close-requires-clause-all_parts g c =
    let it = c.new-counter.result in
    let f = fixed_to 0 [] it.faults c.args.parts.now in
    have_all c.in-Ok.gate c.args.parts.now c.count_beside-seats.result.items f c.requires.some_part refl
    (c.count_beside-seats.ensures.fixed ∙ ap fixed_in c.in-Ok.ensures.one_seat_each
    ∙ fixed_first c.in-Ok.gate f tells (account it.ticks.items it.pending it.faults)
    c.args.parts.now c.requires.some_part)
    c.count_beside-seats.ensures.ours

pub returns-in-Ok : goal.returns-in-Ok
returns-in-Ok g c =
    let it = c.new-counter.result in
    let f = fixed_to 0 [] it.faults c.args.parts.now in
    let fixed = c.count_beside-seats.ensures.fixed ∙ ap fixed_in c.in-Ok.ensures.one_seat_each
    ∙ fixed_first c.in-Ok.gate f tells (account it.ticks.items it.pending it.faults)
    c.args.parts.now c.requires.some_part in
    record {
      only_they = subst (λ o. IfSome o (λ x. TellsOnly tells x.all (account_of c.close.result)))
          fixed c.close.ensures.tells_parts;
    }
