use Rattle.std.proofs.Common.{◌≡◌, ◌++◌, take, string_bytes}
use Rattle.std.specs.List.{flat_map}
use Rattle.pm_types.specs.Printed.{cluster_text}
use Rattle.report.specs.Answers.{spaced}
use Rattle.report.proofs.answers.add_clusters.Given as goal

abbrev pub invariant-loop-cluster : goal.invariant-loop-cluster
invariant-loop-cluster l = string_bytes l.text ≡ string_bytes l.initial.text ++ flat_map (λ c. spaced (cluster_text c))
    (take l.cluster-index l.clusters)
