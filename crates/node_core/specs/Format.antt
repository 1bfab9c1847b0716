-- The clusters that a node begins with.
use Rattle.std.specs.Prelude.{◌≡◌, ℕ, ◌+◌, ◌≤◌, ◌<◌, ⊤, List, [], ◌∷◌, length, map, filter, ◌≢◌, Ok, Err}
use Rattle.std.specs.List.{AllByRecursion, fold}
use Rattle.ucm_base.specs.Limits.{cluster_limit, package_limit}
use Rattle.ucm_base.specs.Names.{name_lt}
use Rattle.ucm_base.specs.Parts.{Bytes}
use Rattle.pm_types.specs.declared.clusters.Cluster.{Cluster}
use Rattle.pm_types.specs.declared.clusters.Extent.{Extent}
use Rattle.pm_types.specs.Clusters.{with_cluster}
use Rattle.pm_types.specs.Histories.{formatted}
use Rattle.pm_types.specs.Stored.{Areas, State, cluster_meaning, meaning}
use Rattle.transfer_blocks.specs.declared.area.Area.TheVariants.{Side, Transfer}
use Rattle.transfer_blocks.specs.Steps.{End, Step, puts, gets, Ran, HasNoFault, wrote}
use Rattle.transfer_blocks.specs.declared.fault.StagingError.TheVariants.{Failed}
use Rattle.node_core.specs.Core.{IsSound, holding}
use Rattle.node_core.specs.Packages.{package_reading}

-- clusters in order of name
abbrev pub in_order : {C : Type 0} → List (Cluster C) → List (Cluster C)
in_order clusters = fold (λ ordered c. with_cluster c ordered) [] clusters

-- those that stand before a name
abbrev pub named_before : {C : Type 0} → List ℕ → List (Cluster C) → List (Cluster C)
named_before name clusters = filter (λ c. name_lt c.name name) clusters

-- a cluster whose bytes lie on the first side of a place
abbrev pub placed : ℕ → Cluster Bytes → Cluster Extent
placed place c = record {
  name = c.name;
  version = c.version;
  needs = c.needs;
  content = record { place = place; side = 0; length = length c.content };
}

-- clusters on the first sides of the places from this one on
abbrev pub placed_from : ℕ → List (Cluster Bytes) → List (Cluster Extent)
placed_from place [] = []
placed_from place (c ∷ clusters) = placed place c ∷ placed_from (place + 1) clusters

-- the stored clusters are these, with their bytes on the first sides of the first places
pub record AreInstalled (areas : Areas) (stored : List (Cluster Extent))
    (clusters : List (Cluster Bytes)) : Type 0 where
  pub places : stored ≡ placed_from 0 clusters
  pub contents : map (cluster_meaning areas) stored ≡ clusters

-- each cluster's bytes are put to the first side of its place
abbrev pub installs : ℕ → List (Cluster Bytes) → List Step
installs place [] = []
installs place (c ∷ clusters) = puts (Side place 0) 0 c.content (Ok tt) ∷ installs (place + 1) clusters

-- areas that the clusters were put to, whatever they held
abbrev pub with_installed : List (Cluster Bytes) → Areas → Areas
with_installed clusters areas = wrote (installs 0 clusters) areas

-- the call puts bytes to the first side of a place, or reads
abbrev pub Installs : Step → Type 0
Installs (puts (Side place side) at bytes end) =
    (place < cluster_limit) × (side ≡ 0) × (at + length bytes ≤ package_limit)
Installs (puts (Transfer slot) at bytes end) = ⊥
Installs (gets end) = ⊤

-- calls of the staging were made that touch first sides alone, none of which met a fault where this ended with none; at
-- Ok they put these clusters, each once
pub record Formats {S : Type 0} (obeys : S → Step → S → Type 0) (clusters : List (Cluster Bytes)) (end : End)
    (old new : S) : Type 0 where
  pub steps : List Step
  pub ran : Ran obeys steps old new
  pub sides : AllByRecursion Installs steps
  pub faultless : end ≢ Err Failed → AllByRecursion HasNoFault steps
  pub whole : end ≡ Ok tt → steps ≡ installs 0 clusters

-- over areas that the clusters were put to, whatever they held, the state is that of a node that begins with them
pub record IsFormatted (clusters : List (Cluster Bytes)) (held : Areas) (s : State) : Type 0 where
  pub node : meaning package_reading (with_installed clusters held) s ≡ formatted clusters
  pub sound : IsSound (holding (with_installed clusters held) s)
