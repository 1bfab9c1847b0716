use Rattle.std.proofs.Common.{◌≡◌, take}
use Rattle.std.specs.List.{flat_map}
use Rattle.run_script.specs.Plans.{fails_by}
use Rattle.run_script.proofs.plan.fails_of.Given as goal

abbrev pub invariant-loop-line : goal.invariant-loop-line
invariant-loop-line l = l.fails.items ≡ flat_map (fails_by l.disk) (take l.line-index l.lines)
