use Rattle.master_gate.specs.Seats.{IsMasterSeat}
use Rattle.master_tries.proofs.threads.add_once.Given as goal

abbrev pub invariant-attempts : goal.invariant-attempts
invariant-attempts g l = IsMasterSeat l.gate l.seat
