use Rattle.std.proofs.Common.{◌≡◌, Some, map, take}
use Rattle.serde_json.specs.View.{view}
use Rattle.manifest.specs.Trees.{all_of}
use Rattle.vehicle_package.specs.Plan.{step_of_tree}
use Rattle.vehicle_package.proofs.plan.all_steps.Given as goal

abbrev pub invariant-steps : goal.invariant-steps
invariant-steps l = all_of (step_of_tree l.count) (map view (take l.i l.values)) ≡ Some l.steps.items
