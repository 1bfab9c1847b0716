-- What a told input says of the task.
use Rattle.std.proofs.Common.{◌≡◌, ◌⊎◌, inl, inr, List, ℕ, Bool, true, false, take, Option, Some, None, IfSome, subst, sym}
use Rattle.std.specs.Prelude.{if◌then◌else◌, Result, Ok, Err, OnOk, OnErr}
use Rattle.std.specs.Str.{bytes_eq}
use Rattle.fault_count.specs.Faults.{HasRisen}
use Rattle.package_reader.specs.declared.fault.PackageError.{PackageError}
use Rattle.package_reader.specs.declared.span.Span.{Span}
use Rattle.package_reader.specs.Reading.{contents_of}
use Rattle.recipe.specs.declared.packing.Kind.{Kind}
use Rattle.recipe.specs.Packing.{packed}
use Rattle.scenario.specs.Scripts.{Refused}
use Rattle.ucm_base.specs.declared.parts.Part.{Part}
use Rattle.ucm_base.specs.Limits.{input_limit}
use Rattle.ucm_ports.specs.Reading.{whole}
use Rattle.vehicle_package.specs.declared.fault.VehicleError.{VehicleError}
use Rattle.vehicle_package.specs.declared.vehicle.Vehicle.{Vehicle}
use Rattle.vehicle_package.specs.Fields.{mark}
use Rattle.vehicle_package.specs.Reading.{vehicle_of}
use Rattle.ucm_prog.specs.declared.status.ExitStatus.{ExitStatus}
use Rattle.ucm_prog.specs.declared.status.ExitStatus.TheVariants.{Successful, CampaignNotSuccessful, Usage, InputRefused, LeftUnfinished, ReadFault, WriteFault, OutOfMemory}
use Rattle.ucm_prog.specs.declared.commands.Command.{Command}
use Rattle.ucm_prog.specs.declared.commands.Command.TheVariants.{Replay, Inspect, Pack}
use Rattle.ucm_prog.specs.Inspect.{inspected, inspected_input, inspected_vehicle}
use Rattle.ucm_prog.specs.Outcome.{IsEnd, IsWritten, Puts, PutsPrefix}
use Rattle.ucm_prog.specs.Outputs.{IsOutput, OfTask, Task, packed_output, task_at, task_of}

-- the task of what was read is that of the input
pub of_whole : (c : Command) (left read : Option (List ℕ)) (says : Task → Type 0)
    → IfSome left (λ all. whole input_limit all ≡ read) → says (task_at c read)
    → IfSome left (λ input. says (task_of c input))
of_whole c None read says all is = tt
of_whole c (Some input) read says all is = rw all is

-- what is said of a task is said of the command's
pub of_task : (command : Option Command) (c : Command) (left : Option (List ℕ)) (says says' : Task → Type 0)
    → command ≡ Some c → ((task : Task) → says task → says' task) → IfSome left (λ input. says (task_of c input))
    → OfTask command left says'
of_task command c None says says' served more is = rw served tt
of_task command c (Some input) says says' served more is = rw served (more (task_of c input) is)

parts-end : (r : Result (List (Part Span)) PackageError) → IsEnd (inspected r).status
parts-end (Ok parts) = tt
parts-end (Err fault) = tt

vehicle-end : (r : Result Vehicle VehicleError) → IsEnd (inspected_vehicle r).status
vehicle-end (Ok vehicle) = tt
vehicle-end (Err fault) = tt

recipe-end : (r : Result (List ℕ) Refused) → IsEnd (packed_output r).status
recipe-end (Ok bytes) = tt
recipe-end (Err refused) = tt

-- what other commands write has a status that a command ends with
pub inspect_end : (input : List ℕ) → IsEnd (inspected_input input).status
inspect_end input = by-mark (bytes_eq mark (take 4 input))
  where
    by-mark : (b : Bool)
        → IsEnd (if b then inspected_vehicle (vehicle_of input) else inspected (contents_of input)).status
    by-mark true = vehicle-end (vehicle_of input)
    by-mark false = parts-end (contents_of input)

pub pack_end : (kind : Kind) (input : List ℕ) → IsEnd (packed_output (packed kind input)).status
pack_end kind input = recipe-end (packed kind input)

-- what was put, or a prefix of it
pub written_so : {U E : Type 0} (r : Result U E) (earlier later : Option (List ℕ)) (text : List ℕ) (faults now : ℕ)
    → OnOk r (Puts earlier later text) → OnErr r (PutsPrefix earlier later text) → OnErr r (HasRisen faults now)
    → IsWritten earlier later text faults now
written_so (Ok u) earlier later text faults now all part risen = inl all
written_so (Err e) earlier later text faults now all part risen = inr (part, risen)
