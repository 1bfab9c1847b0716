use Rattle.std.proofs.Common.{◌≡◌, ◌++◌, List}
use Rattle.std.specs.Vec.Iter.{into_iter_items, into_iter_len}
use Rattle.turn_gate.specs.Known.{Known}
use Rattle.turn_gate.specs.Seats.{AllRest}
use Rattle.turn_gate.proofs.Gathers.{Gathers}
use Rattle.turn_gate.proofs.gate.Gate.close.Given as goal

abbrev pub invariant-loop-other : goal.invariant-loop-other
invariant-loop-other g l = record {
  gate : l.seat.gate ≡ l.fn.self;
  left : AllRest l.fn.self (into_iter_items l.seats);
  gathered : (done : List (Known _ _)) × (l.fn.seats.items ≡ done ++ into_iter_items l.seats)
      × Gathers done l.seat.view;
}

abbrev pub decreases-loop-other : goal.decreases-loop-other
decreases-loop-other g l = into_iter_len l.seats
