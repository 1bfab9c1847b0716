use Rattle.master_gate.specs.Seats.{IsMasterSeat}
use Rattle.master_tries.proofs.threads.add_all.Given as goal

abbrev pub invariant-events : goal.invariant-events
invariant-events g l = IsMasterSeat l.gate l.seat
