use Rattle.std.proofs.Common.{◌≡◌, take, map}
use Rattle.history_query.specs.Shown.{shown_change}
use Rattle.history_query.proofs.infos.shown_changes.Given as goal

abbrev pub invariant-loop-change : goal.invariant-loop-change
invariant-loop-change l = l.infos.items ≡ map shown_change (take l.change-index l.changes)
