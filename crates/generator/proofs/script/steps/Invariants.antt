use Rattle.std.proofs.Common.{◌≡◌, map}
use Rattle.std.specs.List.{range_with_len}
use Rattle.generator.specs.Demo.{step_of}
use Rattle.generator.proofs.script.steps.Given as goal

abbrev pub invariant-loop-place : goal.invariant-loop-place
invariant-loop-place l = l.steps ≡ map step_of (range_with_len 0 l.place)
