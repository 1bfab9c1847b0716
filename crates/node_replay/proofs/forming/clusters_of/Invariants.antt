use Rattle.std.proofs.Common.{◌≡◌, map, take}
use Rattle.node_replay.specs.Lines.{cluster_meant}
use Rattle.node_replay.proofs.forming.clusters_of.Given as goal

abbrev pub invariant-installed : goal.invariant-installed
invariant-installed l = l.clusters.items ≡ map (cluster_meant l.attached) (take l.one-index l.installed)
