use Rattle.std.proofs.Common.{◌≡◌, map, take}
use Rattle.node_recovery.proofs.destination.planned_places.Given as goal

abbrev pub invariant-loop-change : goal.invariant-loop-change
invariant-loop-change l = l.places.items ≡ map (λ c. c.part.payload.place) (take l.change-index l.changes)
