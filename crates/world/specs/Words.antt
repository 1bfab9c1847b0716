-- What clusters run after a list of parts, in words of each cluster.
use Rattle.std.specs.Prelude.{◌≡◌, ℕ, false, List, map, Option, Some, None, Contains}
use Rattle.ucm_base.specs.declared.parts.Action.{Action}
use Rattle.ucm_base.specs.declared.parts.Action.TheVariants.{Install, Update, Remove}
use Rattle.ucm_base.specs.Names.{has_name}
use Rattle.ucm_base.specs.Parts.{Bytes}
use Rattle.ucm_base.specs.declared.parts.Part.{Part}
use Rattle.pm_types.specs.declared.clusters.Cluster.{Cluster}
use Rattle.pm_types.specs.Clusters.{cluster_of, cluster_at, brought}

-- an installed or updated cluster, or none where it is removed
abbrev pub left_by : Action → Cluster Bytes → Option (Cluster Bytes)
left_by Install c = Some c
left_by Update c = Some c
left_by Remove c = None

-- each installed or updated cluster runs with its version and payload, each removed one is absent,
-- and every other cluster is as in saved
pub record RunsNew (parts : List (Part Bytes)) (saved running : List (Cluster Bytes)) : Type 0 where
  pub named : (p : Part Bytes) → Contains parts p
      → cluster_at running (cluster_of p) ≡ left_by p.manifest.action (brought p)
  pub others : (name : List ℕ) → has_name (map cluster_of parts) name ≡ false
      → cluster_at running name ≡ cluster_at saved name
