use Rattle.std.proofs.Common.{◌≡◌, ◌++◌, take, string_bytes}
use Rattle.std.specs.List.{flat_map}
use Rattle.report.specs.Lines.{opening_line}
use Rattle.report.proofs.lines.add_opening.Given as goal

abbrev pub invariant-loop-cluster : goal.invariant-loop-cluster
invariant-loop-cluster l =
    string_bytes l.text ≡ string_bytes l.initial.text ++ flat_map (opening_line) (take l.cluster-index l.clusters)
