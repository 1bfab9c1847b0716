use Rattle.std.proofs.Common.{◌≡◌, take, map}
use Rattle.history_query.specs.Shown.{shown_cluster}
use Rattle.history_query.proofs.infos.shown_clusters.Given as goal

abbrev pub invariant-loop-cluster : goal.invariant-loop-cluster
invariant-loop-cluster l = l.infos.items ≡ map shown_cluster (take l.cluster-index l.clusters)
