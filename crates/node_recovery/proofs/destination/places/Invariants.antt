use Rattle.std.proofs.Common.{◌≡◌, map, take}
use Rattle.node_recovery.proofs.destination.places.Given as goal

abbrev pub invariant-loop-cluster : goal.invariant-loop-cluster
invariant-loop-cluster l = l.places.items ≡ map (λ c. c.content.place) (take l.cluster-index l.clusters)
