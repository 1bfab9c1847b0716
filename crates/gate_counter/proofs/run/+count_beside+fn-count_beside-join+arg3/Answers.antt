use Rattle.std.proofs.Common.{rules, arith, ◌++◌, ◌∷◌, [], ◌∙◌, sym, ap, subst}
use Rattle.gate_counter.specs.Seats.{AreSeatsOf}
use Rattle.turn_gate.specs.Seats.{fixed_in}
use Rattle.gate_counter.proofs.Rows.{last_of, with_last, fixed_last}
use Rattle.gate_counter.proofs.run.+count_beside+fn-count_beside-join+arg3.Goals as goal

pub join-seat-requires-after_bounds : goal.join-seat-requires-after_bounds
join-seat-requires-after_bounds g t c κs within =
    let at = last_of _ _ _ _ _ _ _ c.in-Some-split_last.ensures.cases.0 c.in-Some.ensures.items c.requires.ours in
    (at.1, (search rules, (search rules, ((search rules, at.0), search rules))))

pub push_reserved-requires : goal.push_reserved-requires
push_reserved-requires g t c =
    let ends = c.join-seat.ensures.second in
    let pop = c.in-Some.ensures in
    omega (arith, ends.2, ends.3, pop.capacity, pop.len, c.args.seats.small)

pub returns-clause-ours : goal.returns-clause-ours
returns-clause-ours g t c =
    let ends = c.join-seat.ensures in
    subst (λ l. AreSeatsOf c.args.gate.now l c.push_reserved.new.self.items) (sym c.in-Some-split_last.ensures.cases.0)
    (subst (AreSeatsOf c.args.gate.now (c.in-Some-split_last.before.now ++ c.in-Some-split_last.by.now ∷ []))
    (sym c.push_reserved.ensures.items)
    (with_last c.args.gate.now _ _ _ _ ends.second.0 ends.first.0))

pub returns-clause-fixed : goal.returns-clause-fixed
returns-clause-fixed g t c =
    let items = c.in-Some.ensures.items in
    let at = last_of _ _ _ _ _ _ _ c.in-Some-split_last.ensures.cases.0 items c.requires.ours in
    let ends = c.join-seat.ensures in
    ap fixed_in c.push_reserved.ensures.items
    ∙ fixed_last c.args.gate.now _ _ _ _ _ ends.second.0 at.0 ends.second.1 ends.first.1
    ∙ ap fixed_in (sym items)
