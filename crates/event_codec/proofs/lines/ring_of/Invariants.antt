use Rattle.std.proofs.Common.{◌≡◌, take}
use Rattle.event_codec.proofs.lines.ring_of.Given as goal

abbrev pub invariant-lines : goal.invariant-lines
invariant-lines l = l.ring ≡ take l.line-index l.lines
