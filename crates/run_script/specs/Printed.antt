-- What is printed of a refusal.
use Rattle.std.specs.Prelude.{ℕ, List, ◌++◌, codes}
use Rattle.std.specs.Fmt.{decimal}
use Rattle.vehicle_package.specs.Printed.{fault_text}
use Rattle.scenario.specs.Reasons.{why_text}
use Rattle.run_script.specs.declared.fault.Refusal.{Refusal}
use Rattle.run_script.specs.declared.fault.Refusal.TheVariants.{Line, Vehicle}

-- a line with its number and why, or the vehicle package's fault
abbrev pub refusal_text : Refusal → List ℕ
refusal_text (Line line why) = codes "line " ++ decimal line ++ codes " " ++ why_text why
refusal_text (Vehicle fault) = fault_text fault
