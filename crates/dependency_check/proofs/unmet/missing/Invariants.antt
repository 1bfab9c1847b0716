use Rattle.std.proofs.Common.{◌≡◌, drop, map}
use Rattle.ucm_base.specs.Needs.{first_unmet, missing}
use Rattle.dependency_check.specs.Clusters.{needing}
use Rattle.dependency_check.proofs.unmet.missing.Given as goal

abbrev pub invariant-loop-cluster : goal.invariant-loop-cluster
invariant-loop-cluster l = first_unmet (map needing l.clusters) (map needing (drop l.cluster-index l.clusters))
    ≡ missing (map needing l.clusters)
