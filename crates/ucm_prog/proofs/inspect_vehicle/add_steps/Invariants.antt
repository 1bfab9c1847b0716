use Rattle.std.proofs.Common.{◌≡◌, ◌++◌, take, string_bytes}
use Rattle.std.specs.List.{flat_map}
use Rattle.ucm_prog.specs.Inspect.{step_shown}
use Rattle.ucm_prog.proofs.inspect_vehicle.add_steps.Given as goal

abbrev pub invariant-steps : goal.invariant-steps
invariant-steps l = string_bytes l.text ≡ string_bytes l.initial.text
    ++ flat_map (step_shown l.vehicle.packages) (take l.step-index l.vehicle.steps)
