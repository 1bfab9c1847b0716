use Rattle.std.proofs.Common.{◌≡◌}
use Rattle.gate_counter.specs.Seats.{IsSeatOf}
use Rattle.gate_counter.proofs.run.count_all.Given as goal

abbrev pub invariant-loop : goal.invariant-loop
invariant-loop g l =
    (goal.iterator-loop g).can_next l.iterator' × (goal.iterator-loop g).is_finite l.iterator'
    × IsSeatOf l.fn.gate l.fn.by l.seat × (l.seat.view.fixed ≡ l.fn.seat.view.fixed)
