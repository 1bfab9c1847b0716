-- What `inspect` writes.
use Rattle.std.specs.Prelude.{ℕ, List, [], ◌∷◌, ◌++◌, length, map, take, if◌then◌else◌, codes, Result, Ok, Err}
use Rattle.std.specs.Fmt.{decimal}
use Rattle.std.specs.List.{flat_map}
use Rattle.std.specs.Str.{bytes_eq}
use Rattle.ucm_base.specs.declared.parts.Manifest.{Manifest}
use Rattle.ucm_base.specs.declared.parts.Need.{Need}
use Rattle.ucm_base.specs.declared.parts.Part.{Part}
use Rattle.ucm_base.specs.Printed.{action_text, need_text}
use Rattle.package_reader.specs.declared.fault.PackageError.{PackageError}
use Rattle.package_reader.specs.declared.span.Span.{Span}
use Rattle.package_reader.specs.Packed.{PackedOf}
use Rattle.package_reader.specs.Printed.{fault_text}
use Rattle.package_reader.specs.Reading.{contents_of}
use Rattle.vehicle_package.specs.declared.fault.VehicleError.{VehicleError}
use Rattle.vehicle_package.specs.declared.vehicle.Step.{Step}
use Rattle.vehicle_package.specs.declared.vehicle.Vehicle.{Vehicle}
use Rattle.vehicle_package.specs.Changes.{parts_of}
use Rattle.vehicle_package.specs.Fields.{mark}
use Rattle.vehicle_package.specs.Printed.{fault_text as vehicle_fault_text}
use Rattle.vehicle_package.specs.Reading.{vehicle_of}
use Rattle.ucm_prog.specs.declared.status.ExitStatus.TheVariants.{Successful}
use Rattle.ucm_prog.specs.Refusals.{Output, refused_output}

abbrev pub need_line : Need → List ℕ
need_line need = codes "need " ++ need_text need ++ 10 ∷ []

-- a part's cluster, version, action and payload's length
abbrev pub package_line : Manifest → ℕ → List ℕ
package_line m size =
    codes "package " ++ m.name ++ codes " " ++ m.version ++ codes " " ++ action_text m.action ++ codes " payload "
    ++ decimal size ++ 10 ∷ []

-- and a line for each of its needs
abbrev pub shown : Part Span → List ℕ
shown part = package_line part.manifest part.payload.len ++ flat_map need_line part.manifest.needs

abbrev pub inspected : Result (List (Part Span)) PackageError → Output
inspected (Ok parts) = record { status = Successful; text = flat_map shown parts }
inspected (Err fault) = refused_output (fault_text fault)

-- a step's node, and a part's cluster, version and action
abbrev pub step_line : ℕ → Manifest → List ℕ
step_line node m =
    codes "step " ++ decimal node ++ codes " " ++ m.name ++ codes " " ++ m.version ++ codes " " ++ action_text m.action
    ++ 10 ∷ []

-- a line for each part of a step's package
abbrev pub step_shown : List PackedOf → Step → List ℕ
step_shown packages step = flat_map (step_line step.node) (map (λ part. part.manifest) (parts_of packages step))

-- how many steps and packages a vehicle has
abbrev pub vehicle_line : Vehicle → List ℕ
vehicle_line v =
    codes "vehicle steps " ++ decimal (length v.steps) ++ codes " packages " ++ decimal (length v.packages) ++ 10 ∷ []

abbrev pub vehicle_shown : Vehicle → List ℕ
vehicle_shown v = vehicle_line v ++ flat_map (step_shown v.packages) v.steps

abbrev pub inspected_vehicle : Result Vehicle VehicleError → Output
inspected_vehicle (Ok v) = record { status = Successful; text = vehicle_shown v }
inspected_vehicle (Err fault) = refused_output (vehicle_fault_text fault)

-- bytes that begin as a vehicle package are read as one, and all others as a software package
abbrev pub inspected_input : List ℕ → Output
inspected_input input =
    if bytes_eq mark (take 4 input) then inspected_vehicle (vehicle_of input) else inspected (contents_of input)
