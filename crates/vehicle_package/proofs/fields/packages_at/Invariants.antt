use Rattle.std.proofs.Common.{◌≡◌, ◌-◌, ◌≤◌, length}
use Rattle.vehicle_package.specs.Fields.{packages_at}
use Rattle.vehicle_package.proofs.Walk.{with_front}
use Rattle.vehicle_package.proofs.fields.packages_at.Given as goal

abbrev pub invariant-loop : goal.invariant-loop
invariant-loop l = record {
  so_far : with_front l.places.items (packages_at (l.count - l.counter) l.bytes l.place)
      ≡ packages_at l.count l.bytes l.initial.place;
  within : l.place ≤ length l.bytes;
  many : length l.places.items ≡ l.counter;
}
