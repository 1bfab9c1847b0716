-- Where the payloads of a package's parts go.
use Rattle.std.specs.Prelude.{◌≡◌, ℕ, ◌*◌, ◌-◌, List, [], ◌∷◌, ◌++◌, length, map, take, ⊤}
use Rattle.std.specs.List.{AllByRecursion}
use Rattle.std.specs.Option.{option_map_or}
use Rattle.ucm_base.specs.declared.parts.Action.{Action}
use Rattle.ucm_base.specs.declared.parts.Action.TheVariants.{Install, Update, Remove}
use Rattle.ucm_base.specs.declared.parts.Part.{Part}
use Rattle.ucm_base.specs.Limits.{block_limit, cluster_limit}
use Rattle.ucm_base.specs.Parts.{Bytes, cluster_of}
use Rattle.pm_types.specs.declared.clusters.Cluster.{Cluster}
use Rattle.pm_types.specs.declared.clusters.Extent.{Extent}
use Rattle.pm_types.specs.Clusters.{cluster_at, units_of}
use Rattle.pm_types.specs.Histories.{Reading}
use Rattle.pm_types.specs.declared.state.StoredTransfer.{StoredTransfer}
use Rattle.pm_types.specs.declared.status.Phase.{Phase}
use Rattle.pm_types.specs.declared.status.Phase.TheVariants.{Processing}
use Rattle.pm_types.specs.Stored.{Areas, State, on_side, places_in, transfer_meaning}
use Rattle.transfer_blocks.specs.Table.{lowest_free}

-- where the running cluster of a name lies
abbrev pub running_at : List (Cluster Extent) → List ℕ → Extent
running_at running name =
    option_map_or (λ c. c.content) (cluster_at running name) (record { place = 0; side = 0; length = 0 })

-- a payload goes to the lowest free place, to the running cluster's other side, or to none but its own
abbrev pub goes_to : Action → List ℕ → Extent → ℕ → Extent
goes_to Install taken at size = record { place = lowest_free cluster_limit taken; side = 0; length = size }
goes_to Update taken at size = record { place = at.place; side = 1 - at.side; length = size }
goes_to Remove taken at size = record { place = at.place; side = at.side; length = size }

abbrev pub extent_of : List (Cluster Extent) → List ℕ → Part ℕ → Extent
extent_of running taken part = goes_to part.manifest.action taken (running_at running (cluster_of part)) part.payload

-- where the payloads of parts go, in order: for the parts behind it a part counts as planned
abbrev pub extents_of : List (Cluster Extent) → List ℕ → List (Part ℕ) → List Extent
extents_of running taken [] = []
extents_of running taken (part ∷ parts) =
    let extent = extent_of running taken part in extent ∷ extents_of running (taken ++ extent.place ∷ []) parts

-- the places that running clusters, saved clusters and planned changes have
abbrev pub taken_in : State → List ℕ
taken_in s = map (λ taken. taken.1) (places_in s)

-- where the payloads of a transfer's parts go
abbrev pub extents_in : State → StoredTransfer → List Extent
extents_in s t = extents_of s.running (taken_in s) t.contents

-- so many units of parts lie in these extents, the first parts first
abbrev pub AreCopied : Areas → ℕ → List (Part Bytes) → List Extent → Type 0
AreCopied areas done (part ∷ parts) (extent ∷ extents) =
    (take (done * block_limit) (on_side areas extent) ≡ take (done * block_limit) part.payload)
    × AreCopied areas (done - units_of (length part.payload)) parts extents
AreCopied areas done _ _ = ⊤

-- the units done of the package in processing, or of the one that was processed last
abbrev pub units_done : State → ℕ
units_done s = option_map_or (λ x. x.units_done) s.session 0

-- of a transfer in processing the units done lie where they go
abbrev pub IsCopiedIn : Reading → Areas → State → StoredTransfer → Phase → Type 0
IsCopiedIn read areas s t Processing =
    AreCopied areas (units_done s) (transfer_meaning read areas t).parts (extents_in s t)
IsCopiedIn read areas s t _ = ⊤

abbrev pub IsCopied : Reading → Areas → State → Type 0
IsCopied read areas s = AllByRecursion (λ t. IsCopiedIn read areas s t t.header.phase) s.transfers
