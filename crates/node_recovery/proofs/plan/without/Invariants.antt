use Rattle.std.proofs.Common.{◌≡◌, take}
use Rattle.pm_types.specs.Clusters.{without}
use Rattle.node_recovery.proofs.plan.without.Given as goal

abbrev pub invariant-loop-cluster : goal.invariant-loop-cluster
invariant-loop-cluster l = l.left.items ≡ without l.name (take l.cluster-index l.clusters)
