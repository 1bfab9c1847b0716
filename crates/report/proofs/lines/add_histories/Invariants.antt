use Rattle.std.proofs.Common.{◌≡◌, ◌++◌, take, string_bytes}
use Rattle.std.specs.List.{flat_map}
use Rattle.report.specs.Lines.{node_lines}
use Rattle.report.proofs.lines.add_histories.Given as goal

abbrev pub invariant-loop-history : goal.invariant-loop-history
invariant-loop-history l =
    string_bytes l.text ≡ string_bytes l.initial.text ++ flat_map (node_lines l.full) (take l.history-index l.nodes)
