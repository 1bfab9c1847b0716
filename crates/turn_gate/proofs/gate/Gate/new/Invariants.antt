use Rattle.std.proofs.Common.{◌≡◌, ◌+◌, ◌≤◌, ◌++◌, length, drop}
use Rattle.std.specs.Vec.{vec_len, vec_capacity}
use Rattle.turn_gate.specs.Parts.{parts_of}
use Rattle.turn_gate.specs.Seats.{one_each}
use Rattle.turn_gate.specs.Views.{fixed_by, first_view}
use Rattle.turn_gate.proofs.gate.Gate.new.Given as goal

abbrev pub ghosts-make_as : goal.ghosts-make_as
ghosts-make_as g a = record { all = a.parts.now }

abbrev pub invariant-loop-part : goal.invariant-loop-part
invariant-loop-part g l =
    let a = g.M.Machine.account l.fn.machine in
    let base = first_view (fixed_by g.M.Machine.opening g.M.Machine.fixed g.M.Machine.account l.fn.machine l.fn.parts)
    a in
    let left = parts_of g.M.Machine.tells a (drop l.part-index l.fn.parts) in record {
      gate : l.seat.gate ≡ l.gate;
      view : l.seat.view ≡ base left;
      dealt : l.seats.items ++ one_each l.gate base left
          ≡ one_each l.gate base (parts_of g.M.Machine.tells a l.fn.parts);
      room : vec_len l.seats + length (drop l.part-index l.fn.parts) ≤ vec_capacity l.seats;
    }
