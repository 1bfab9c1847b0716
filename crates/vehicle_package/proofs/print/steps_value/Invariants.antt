use Rattle.std.proofs.Common.{◌≡◌, map, take}
use Rattle.serde_json.specs.View.{view}
use Rattle.vehicle_package.specs.Written.{step_tree}
use Rattle.vehicle_package.proofs.print.steps_value.Given as goal

abbrev pub invariant-steps : goal.invariant-steps
invariant-steps l = map view l.list.items ≡ map step_tree (take l.step-index l.steps)
