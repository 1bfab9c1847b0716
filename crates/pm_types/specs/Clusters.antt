-- Lists of clusters in order of name, and what planned changes make of them.
use Rattle.std.specs.Prelude.{ℕ, Bool, ◌+◌, ◌-◌, ◌/◌, max, not, List, [], ◌∷◌, ◌++◌, length, map, filter, sum_by, Option, find}
use Rattle.std.specs.List.{list_any}
use Rattle.std.specs.Str.{bytes_eq}
use Rattle.ucm_base.specs.declared.parts.Action.{Action}
use Rattle.ucm_base.specs.declared.parts.Action.TheVariants.{Install, Update, Remove}
use Rattle.ucm_base.specs.Limits.{block_limit}
use Rattle.ucm_base.specs.Names.{name_lt}
use Rattle.ucm_base.specs.Needs.{Unmet, missing}
use Rattle.ucm_base.specs.Parts.{Bytes}
pub use Rattle.ucm_base.specs.Parts.{cluster_of}
use Rattle.ucm_base.specs.declared.parts.Part.{Part}
use Rattle.pm_types.specs.declared.clusters.Cluster.{Cluster}
use Rattle.pm_types.specs.declared.clusters.Change.{Change}

-- the cluster of a name
abbrev pub cluster_at : {C : Type 0} → List (Cluster C) → List ℕ → Option (Cluster C)
cluster_at clusters name = find (λ c. bytes_eq c.name name) clusters

-- whether a cluster of the name is there
abbrev pub has_cluster : {C : Type 0} → List (Cluster C) → List ℕ → Bool
has_cluster clusters name = list_any (λ c. bytes_eq c.name name) clusters

-- the clusters without that of a name
abbrev pub without : {C : Type 0} → List ℕ → List (Cluster C) → List (Cluster C)
without name clusters = filter (λ c. not (bytes_eq c.name name)) clusters

-- the clusters with this one in its place
abbrev pub with_cluster : {C : Type 0} → Cluster C → List (Cluster C) → List (Cluster C)
with_cluster c clusters = filter (λ d. name_lt d.name c.name) clusters ++ c
    ∷ filter (λ d. name_lt c.name d.name) clusters

-- the cluster that a part brings
abbrev pub brought : {C : Type 0} → Part C → Cluster C
brought part = record {
  name = part.manifest.name;
  version = part.manifest.version;
  needs = part.manifest.needs;
  content = part.payload;
}

-- Install adds, Update replaces, Remove takes out
abbrev pub changed_as : {C : Type 0} → Action → Cluster C → List (Cluster C) → List (Cluster C)
changed_as Install c clusters = with_cluster c clusters
changed_as Update c clusters = with_cluster c clusters
changed_as Remove c clusters = without c.name clusters

abbrev pub changed_by : {C : Type 0} → Part C → List (Cluster C) → List (Cluster C)
changed_by part clusters = changed_as part.manifest.action (brought part) clusters

-- the clusters after the changes, in order
abbrev pub planned : {C : Type 0} → List (Change C) → List (Cluster C) → List (Cluster C)
planned [] clusters = clusters
planned (change ∷ changes) clusters = planned changes (changed_by change.part clusters)

-- the changes that a transfer's parts make
abbrev pub changes_of : {C : Type 0} → ℕ → List (Part C) → List (Change C)
changes_of id parts = map (λ part. record { transfer = id; part = part }) parts

-- the first need that the clusters leave unmet
abbrev pub unmet_among : {C : Type 0} → List (Cluster C) → Option Unmet
unmet_among clusters = missing (map (λ c. record { name = c.name; version = c.version; needs = c.needs }) clusters)

-- the units that bring a payload of this size: 4,096 bytes each, and one where there are none
abbrev pub units_of : ℕ → ℕ
units_of size = max 1 ((size + block_limit - 1) / block_limit)

-- the units that bring all parts
abbrev pub all_units : List (Part Bytes) → ℕ
all_units parts = sum_by (λ part. units_of (length part.payload)) parts

-- the same, by the lengths of their payloads
abbrev pub stored_units : List (Part ℕ) → ℕ
stored_units parts = sum_by (λ part. units_of part.payload) parts
