-- What is printed of the fault of bytes that are no vehicle package.
use Rattle.std.specs.Prelude.{ℕ, List, ◌++◌, codes}
use Rattle.std.specs.Fmt.{decimal}
use Rattle.package_reader.specs.Printed.{fault_text as package_fault_text}
use Rattle.vehicle_package.specs.declared.fault.VehicleError.{VehicleError}
use Rattle.vehicle_package.specs.declared.fault.VehicleError.TheVariants.{VehicleInconsistent, InvalidPlan, PackageRefused, ClusterTwice, OutOfMemory}

-- the fault's name, and what it carries
abbrev pub fault_text : VehicleError → List ℕ
fault_text (VehicleInconsistent place) = codes "VehicleInconsistent " ++ decimal place
fault_text InvalidPlan = codes "InvalidPlan"
fault_text (PackageRefused index fault) = codes "package " ++ decimal index ++ codes " " ++ package_fault_text fault
fault_text (ClusterTwice node name) = codes "ClusterTwice " ++ decimal node ++ codes " " ++ name
fault_text OutOfMemory = codes "OutOfMemory"
