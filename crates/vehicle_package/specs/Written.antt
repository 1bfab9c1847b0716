-- The tree of a plan.
use Rattle.std.specs.Prelude.{◌≡◌, ℕ, true, List, length, codes, map, Some}
use Rattle.std.specs.List.{AllByRecursion}
use Rattle.serde_json.specs.Data.{Data, array, member, no_members, number, object, unsigned}
use Rattle.serde_json.specs.View.{items_of}
use Rattle.vehicle_package.specs.declared.vehicle.Step.{Step}
use Rattle.vehicle_package.specs.Plan.{IsStep, are_few, plan_of, plan_text}

-- an object of a step's node and package
abbrev pub step_tree : Step → Data
step_tree s = object
    (member (codes "node") (number (unsigned s.node))
    (member (codes "package") (number (unsigned s.package)) no_members))

-- an array of steps
abbrev pub steps_tree : List Step → Data
steps_tree steps = array (items_of (map step_tree steps))

-- an object of the steps
abbrev pub plan_tree : List Step → Data
plan_tree steps = object (member (codes "steps") (steps_tree steps) no_members)

-- the canonical text of 1 to 128 steps is read as them, over each number of packages that they fit
abbrev pub ReadsBack : List Step → Type 0
ReadsBack steps = (count : ℕ) → are_few (length steps) ≡ true → AllByRecursion (IsStep count) steps
    → plan_of count (plan_text steps) ≡ Some steps
