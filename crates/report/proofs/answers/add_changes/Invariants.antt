use Rattle.std.proofs.Common.{◌≡◌, ◌++◌, take, string_bytes}
use Rattle.std.specs.List.{flat_map}
use Rattle.pm_types.specs.Printed.{change_text}
use Rattle.report.specs.Answers.{spaced}
use Rattle.report.proofs.answers.add_changes.Given as goal

abbrev pub invariant-loop-change : goal.invariant-loop-change
invariant-loop-change l = string_bytes l.text ≡ string_bytes l.initial.text ++ flat_map (λ c. spaced (change_text c))
    (take l.change-index l.changes)
