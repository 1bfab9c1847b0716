use Rattle.node_core.proofs.Names.{map, take, ◌≡◌}
use Rattle.node_core.proofs.destination.places.Given as goal

abbrev pub invariant-loop-cluster : goal.invariant-loop-cluster
invariant-loop-cluster l = l.places.items ≡ map (λ c. c.content.place) (take l.cluster-index l.clusters)
