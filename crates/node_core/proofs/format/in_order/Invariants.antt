use Rattle.node_core.proofs.Names.{in_order, length, map, take, ◌≡◌}
use Rattle.node_core.proofs.format.in_order.Given as goal

abbrev pub invariant-loop-cluster : goal.invariant-loop-cluster
invariant-loop-cluster l =
    (map (λ c. c.now) l.sorted.items ≡ in_order (take l.cluster-index l.installed))
    × (length (map (λ c. c.now) l.sorted.items) ≡ l.cluster-index)
