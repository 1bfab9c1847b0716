-- How a counter stands.
use Rattle.turn_gate.specs.Views.{account}
use Rattle.turn_gate.specs.declared.view.Account.{Account}
use Rattle.gate_counter.specs.declared.counter.Counter.{Counter}
use Rattle.gate_counter.specs.declared.tick.Tick.{Tick}

abbrev pub account_of : Counter → Account Tick
account_of c = account c.ticks.items c.pending c.faults
