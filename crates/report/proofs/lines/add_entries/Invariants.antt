use Rattle.std.proofs.Common.{◌≡◌, ◌++◌, take, string_bytes}
use Rattle.std.specs.List.{flat_map}
use Rattle.report.specs.Lines.{node_line}
use Rattle.report.proofs.lines.add_entries.Given as goal

abbrev pub invariant-loop-placed : goal.invariant-loop-placed
invariant-loop-placed l = string_bytes l.text ≡ string_bytes l.initial.text ++ flat_map (node_line l.full l.node)
    (take l.placed-index l.entries)
