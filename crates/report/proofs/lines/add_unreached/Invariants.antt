use Rattle.std.proofs.Common.{◌≡◌, ◌++◌, take, string_bytes}
use Rattle.std.specs.List.{flat_map}
use Rattle.report.specs.Lines.{open_line}
use Rattle.report.proofs.lines.add_unreached.Given as goal

abbrev pub invariant-loop-open : goal.invariant-loop-open
invariant-loop-open l =
    string_bytes l.text ≡ string_bytes l.initial.text ++ flat_map (open_line) (take l.open-index l.unreached)
