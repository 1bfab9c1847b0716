use Rattle.std.proofs.Common.{◌≡◌, take}
use Rattle.pm_types.proofs.state.Clusters.copied.Given as goal

abbrev pub invariant-loop-cluster : goal.invariant-loop-cluster
invariant-loop-cluster l = l.items.items ≡ take l.cluster-index l.cluster-items
