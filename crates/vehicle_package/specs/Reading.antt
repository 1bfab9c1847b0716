-- What bytes are a vehicle package of, or the first refusal.
use Rattle.std.specs.Prelude.{ℕ, ◌+◌, List, [], ◌∷◌, length, map, Option, Some, None, ok_or, Result, Ok, Err}
use Rattle.ucm_base.specs.Parts.{Bytes}
use Rattle.ucm_base.specs.declared.parts.Part.{Part}
use Rattle.package_reader.specs.Fields.{bytes_of}
use Rattle.package_reader.specs.Packed.{PackedOf}
use Rattle.package_reader.specs.Reading.{reading}
use Rattle.package_reader.specs.declared.fault.PackageError.{PackageError}
use Rattle.vehicle_package.specs.declared.changes.Change.{Change}
use Rattle.vehicle_package.specs.declared.fault.VehicleError.{VehicleError}
use Rattle.vehicle_package.specs.declared.fault.VehicleError.TheVariants.{ClusterTwice, InvalidPlan, PackageRefused}
use Rattle.vehicle_package.specs.declared.vehicle.Step.{Step}
use Rattle.vehicle_package.specs.declared.vehicle.Vehicle.{Vehicle}
use Rattle.vehicle_package.specs.Changes.{twice_in}
use Rattle.vehicle_package.specs.Fields.{◌>>=◌, fields_of}
use Rattle.vehicle_package.specs.Plan.{plan_of}

-- the package of these parts, or its refusal at its place of the list
abbrev pub carried : ℕ → Bytes → Result (List (Part Bytes)) PackageError → Result PackedOf VehicleError
carried index bytes (Ok parts) = Ok (record { bytes = bytes; parts = parts })
carried index bytes (Err fault) = Err (PackageRefused index fault)

abbrev pub package_in : ℕ → Bytes → Result PackedOf VehicleError
package_in index bytes = carried index bytes (reading bytes)

-- the packages, whose places of the list begin at an index
abbrev pub packages_in : ℕ → List Bytes → Result (List PackedOf) VehicleError
packages_in index [] = Ok []
packages_in index (bytes ∷ more) = do
  p ← package_in index bytes
  ps ← packages_in (index + 1) more
  Ok (p ∷ ps)

abbrev pub unless_twice : Option Change → Result (Unit {0}) VehicleError
unless_twice (Some c) = Err (ClusterTwice c.node c.cluster)
unless_twice None = Ok tt

-- no step changes a cluster that an earlier step changes on the same node
abbrev pub each_once : List PackedOf → List Step → Result (Unit {0}) VehicleError
each_once packages steps = unless_twice (twice_in packages steps)

-- the refusals, in their order: a field that isn't there, the plan, the first package, the first cluster twice
unfoldable pub vehicle_of : Bytes → Result Vehicle VehicleError
vehicle_of bytes = do
  fields ← fields_of bytes
  steps ← ok_or (plan_of (length fields.packages) (bytes_of bytes fields.plan)) InvalidPlan
  packages ← packages_in 0 (map (bytes_of bytes) fields.packages)
  _ ← each_once packages steps
  Ok (record { steps = steps; packages = packages })
