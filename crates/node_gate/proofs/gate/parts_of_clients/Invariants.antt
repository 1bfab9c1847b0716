use Rattle.std.proofs.Common.{◌≡◌, take}
use Rattle.node_gate.proofs.gate.parts_of_clients.Given as goal

abbrev pub invariant-loop-client : goal.invariant-loop-client
invariant-loop-client l = l.parts.items ≡ take l.client-index l.clients
