use Rattle.std.proofs.Common.{◌≡◌, ◌-◌, length}
use Rattle.vehicle_package.specs.Changes.{changed_before, first_at, twice_at, twice_in}
use Rattle.vehicle_package.proofs.changes.twice_in.Given as goal

abbrev pub invariant-steps : goal.invariant-steps
invariant-steps l = record {
  above : l.above.items ≡ changed_before l.packages l.steps l.step-index;
  below : first_at (twice_at l.packages l.steps) l.step-index (length l.steps - l.step-index)
      ≡ twice_in l.packages l.steps;
}
