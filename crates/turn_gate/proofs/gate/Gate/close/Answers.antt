use Rattle.std.proofs.Common.{◌≡◌, ◌++◌, ◌∷◌, [], ◌∙◌, ap, subst, sym, append_assoc}
use Rattle.std.specs.Vec.Iter.{into_iter_items}
use Rattle.std.proofs.lemmas.List.{append-nil, nil_from_length}
use Rattle.turn_gate.specs.Seats.{AllRest, HaveAll}
use Rattle.turn_gate.proofs.Gathers.{gathers_more, has_all}
use Rattle.turn_gate.proofs.gate.Gate.close.Goals as goal

pub loop-other-preserved : goal.loop-other-preserved
loop-other-preserved g c =
    let was = c.loop-other.invariant in
    let done = was.gathered.0 in
    let other = c.in-Some-next.other in
    let items = c.in-Some-next.ensures.items in
    let left = subst (AllRest c.args.self) items was.left in
    record {
      gate = c.join.ensures.same_gate;
      left = left.1;
      gathered = (
        done ++ other ∷ [],
        was.gathered.1 ∙ ap (λ l. done ++ l) items
            ∙ sym (append_assoc done (other ∷ []) (into_iter_items c.next-in-loop-other.new.self)),
        gathers_more done c.loop-other.seat.view other c.join.new.seat.view c.join.ensures.both c.join.ensures.goes_on
            c.join.ensures.has_seen was.gathered.2,
      );
    }

pub close_one-requires-clause-all_parts : goal.close_one-requires-clause-all_parts
close_one-requires-clause-all_parts g c =
    let was = c.loop-other.invariant.gathered in
    let none : into_iter_items c.loop-other.seats
    ≡ [] = nil_from_length _ (sym c.loop-other.seats.rest.ok.0 ∙ c.in_default-next.ensures.cases.0) in
    let all = was.1 ∙ ap (λ l. was.0 ++ l) none ∙ append-nil was.0 in
    has_all was.0 c.loop-other.seat.view (subst HaveAll all c.requires.all_parts) was.2.fixed was.2.parts
