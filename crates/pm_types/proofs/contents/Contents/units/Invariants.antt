use Rattle.std.proofs.Common.{◌≡◌, ◌*◌, ◌^◌, ◌≤◌, take}
use Rattle.pm_types.specs.Clusters.{stored_units}
use Rattle.pm_types.proofs.contents.Contents.units.Given as goal

abbrev pub invariant-loop-part : goal.invariant-loop-part
invariant-loop-part l =
    (l.units ≡ stored_units (take l.part-index l.part-items)) × (l.units ≤ l.part-index * 2 ^ 20)
