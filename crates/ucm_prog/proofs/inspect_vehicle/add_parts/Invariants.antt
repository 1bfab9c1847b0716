use Rattle.std.proofs.Common.{◌≡◌, ◌++◌, map, take, string_bytes}
use Rattle.std.specs.List.{flat_map}
use Rattle.ucm_prog.specs.Inspect.{step_line}
use Rattle.ucm_prog.proofs.inspect_vehicle.add_parts.Given as goal

abbrev pub invariant-parts : goal.invariant-parts
invariant-parts l = string_bytes l.text ≡ string_bytes l.initial.text
    ++ flat_map (step_line l.node) (map (λ part. part.manifest) (take l.part-index l.parts))
