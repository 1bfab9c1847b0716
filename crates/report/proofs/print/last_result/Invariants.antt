use Rattle.std.proofs.Common.{◌≡◌, take}
use Rattle.report.specs.Lines.{last_result}
use Rattle.report.proofs.print.last_result.Given as goal

abbrev pub invariant-loop-event : goal.invariant-loop-event
invariant-loop-event l = l.last ≡ last_result (take l.event-index l.events)
