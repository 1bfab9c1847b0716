use Rattle.std.proofs.Common.{◌≡◌, ◌≤◌, drop, map, length}
use Rattle.package_reader.specs.Fields.{bytes_of}
use Rattle.ucm_base.specs.Limits.{carried_limit}
use Rattle.vehicle_package.specs.Reading.{packages_in}
use Rattle.vehicle_package.proofs.Walk.{with_read}
use Rattle.vehicle_package.proofs.read.packages_in.Given as goal

abbrev pub invariant-places : goal.invariant-places
invariant-places l = record {
  so_far : with_read l.packages (packages_in l.place-index (map (bytes_of l.bytes) (drop l.place-index l.places)))
      ≡ packages_in 0 (map (bytes_of l.bytes) l.places);
  index : l.index ≡ l.place-index;
}
