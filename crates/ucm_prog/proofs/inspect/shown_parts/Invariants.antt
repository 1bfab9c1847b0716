use Rattle.std.proofs.Common.{◌≡◌, take, string_bytes}
use Rattle.std.specs.List.{flat_map}
use Rattle.ucm_prog.specs.Inspect.{shown}
use Rattle.ucm_prog.proofs.inspect.shown_parts.Given as goal

abbrev pub invariant-parts : goal.invariant-parts
invariant-parts l = string_bytes l.text ≡ flat_map shown (take l.part-index l.parts)
