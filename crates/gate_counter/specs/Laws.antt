-- Laws of a counter.
use Rattle.std.specs.Prelude.{◌<◌, ◌^◌, ◌%◌, List, length}
use Rattle.std.proofs.Common.{arith}
use Rattle.gate_counter.specs.declared.counter.Counter.{Counter}
use Rattle.gate_counter.specs.declared.tick.Tick.{Tick}

pub code_fits : (ticks : List Tick) → length ticks % 10 < 16
code_fits ticks = omega arith

pub list_fits : (c : Counter) → length c.ticks.items < 2 ^ 59
list_fits c = omega (arith, c.short)
