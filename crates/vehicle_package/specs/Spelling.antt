-- What a vehicle package is: whole bytes, and the vehicle that they belong to.
use Rattle.std.specs.Prelude.{◌≡◌, ◌≤◌, List, ◌++◌, length, map, true, Some, None}
use Rattle.std.specs.List.{AllByRecursion, flat_map}
use Rattle.wire.specs.Fields.{bytes_field, u16_field}
use Rattle.ucm_base.specs.Limits.{carried_limit, package_limit, plan_limit, vehicle_limit}
use Rattle.ucm_base.specs.Parts.{Bytes}
use Rattle.package_reader.specs.Packed.{PackedOf}
use Rattle.package_reader.specs.Spelling.{IsPackage, sealed}
use Rattle.vehicle_package.specs.declared.vehicle.Step.{Step}
use Rattle.vehicle_package.specs.declared.vehicle.Vehicle.{Vehicle}
use Rattle.vehicle_package.specs.Changes.{twice_in}
use Rattle.vehicle_package.specs.Fields.{mark}
use Rattle.vehicle_package.specs.Plan.{IsStep, are_few, plan_of, plan_text}

-- the bytes before the digest: the mark, the plan's text, the number of packages, and each package behind its length
abbrev pub body : Bytes → List Bytes → Bytes
body plan packages = mark ++ bytes_field plan ++ u16_field (length packages) ++ flat_map bytes_field packages

abbrev pub spelling : Bytes → List Bytes → Bytes
spelling plan packages = sealed (body plan packages)

-- the bytes of a vehicle package with the plan's canonical text
unfoldable pub vehicle_text : List Step → List Bytes → Bytes
vehicle_text steps packages = spelling (plan_text steps) packages

-- a package that a vehicle may carry
pub record IsCarried (p : PackedOf) : Type 0 where
  pub small : length p.bytes ≤ package_limit
  pub is : IsPackage p.bytes p.parts

-- the bytes are the vehicle package of this vehicle
pub record IsVehicle (bytes : Bytes) (v : Vehicle) : Type 0 where
  pub plan : Bytes
  pub spelled : bytes ≡ spelling plan (map (λ p. p.bytes) v.packages)
  pub whole : length bytes ≤ vehicle_limit
  pub short : length plan ≤ plan_limit
  pub steps : plan_of (length v.packages) plan ≡ Some v.steps
  pub some : 1 ≤ length v.packages
  pub few : length v.packages ≤ carried_limit
  pub each : AllByRecursion IsCarried v.packages
  pub once : twice_in v.packages v.steps ≡ None

-- a vehicle that has a vehicle package
pub record IsInForm (v : Vehicle) : Type 0 where
  pub many : are_few (length v.steps) ≡ true
  pub steps : AllByRecursion (IsStep (length v.packages)) v.steps
  pub some : 1 ≤ length v.packages
  pub few : length v.packages ≤ carried_limit
  pub each : AllByRecursion IsCarried v.packages
  pub once : twice_in v.packages v.steps ≡ None
  pub whole : length (vehicle_text v.steps (map (λ p. p.bytes) v.packages)) ≤ vehicle_limit
