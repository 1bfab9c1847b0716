use Rattle.std.proofs.Common.{◌≡◌, take}
use Rattle.ucm_base.proofs.parts.Needs.copied.Given as goal

abbrev pub invariant-loop-need : goal.invariant-loop-need
invariant-loop-need l = l.items.items ≡ take l.need-index l.need-items
