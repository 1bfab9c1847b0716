use Rattle.std.proofs.Common.{◌≡◌, map, take}
use Rattle.vehicle_package.specs.Changes.{change_on}
use Rattle.vehicle_package.proofs.changes.changes_on.Given as goal

abbrev pub invariant-parts : goal.invariant-parts
invariant-parts l = l.changes.items ≡ map (change_on l.node) (take l.part-index l.parts)
