use Rattle.master_gate.specs.Seats.{IsWatcher}
use Rattle.master_tries.proofs.threads.poll_all.Given as goal

abbrev pub invariant-polls : goal.invariant-polls
invariant-polls g l = IsWatcher l.gate l.seat
