use Rattle.std.proofs.Common.{◌≡◌, take}
use Rattle.event_codec.proofs.replies.IdListTake.take.Given as goal

abbrev pub invariant-ids : goal.invariant-ids
invariant-ids l = l.ids ≡ take l.id-index l.id-items
