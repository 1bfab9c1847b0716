use Rattle.std.proofs.Common.{◌≡◌, ◌++◌, take, string_bytes}
use Rattle.std.specs.List.{flat_map}
use Rattle.ucm_prog.specs.Inspect.{need_line}
use Rattle.ucm_prog.proofs.inspect.add_needs.Given as goal

abbrev pub invariant-loop-need : goal.invariant-loop-need
invariant-loop-need l = string_bytes l.text ≡ string_bytes l.initial.text
    ++ flat_map need_line (take l.need-index l.needs)
