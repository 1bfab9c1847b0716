use Rattle.std.proofs.Common.{◌≡◌, ◌++◌, take, string_bytes}
use Rattle.std.specs.List.{flat_map}
use Rattle.report.specs.Answers.{history_text, spaced}
use Rattle.report.proofs.answers.add_history.Given as goal

abbrev pub invariant-loop-line : goal.invariant-loop-line
invariant-loop-line l = string_bytes l.text ≡ string_bytes l.initial.text ++ flat_map
    (λ x. spaced (history_text l.start x)) (take l.line-index l.lines)
