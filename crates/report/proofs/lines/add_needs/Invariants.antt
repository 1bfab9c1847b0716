use Rattle.std.proofs.Common.{◌≡◌, ◌++◌, take, string_bytes}
use Rattle.std.specs.List.{flat_map}
use Rattle.ucm_base.specs.Printed.{need_text}
use Rattle.report.specs.Answers.{spaced}
use Rattle.report.proofs.lines.add_needs.Given as goal

abbrev pub invariant-loop-need : goal.invariant-loop-need
invariant-loop-need l = string_bytes l.text ≡ string_bytes l.initial.text ++ flat_map (λ need. spaced (need_text need))
    (take l.need-index l.needs)
