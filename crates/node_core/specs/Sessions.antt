-- A stored node's session, and what a call makes of it.
use Rattle.pm_types.specs.Sessions.{names_among}
use Rattle.std.specs.Prelude.{ℕ, Bool, ◌||◌, not, if◌then◌else◌, [], ◌∷◌, List, length, is_none, Option}
use Rattle.std.specs.Option.{option_map_or}
use Rattle.pm_types.specs.declared.clusters.Change.{Change}
use Rattle.pm_types.specs.declared.clusters.Extent.{Extent}
use Rattle.pm_types.specs.declared.state.StoredTransfer.{StoredTransfer}
use Rattle.pm_types.specs.declared.status.Phase.TheVariants.{Transferred}
use Rattle.pm_types.specs.declared.clusters.Cluster.{Cluster}
use Rattle.ucm_base.specs.declared.parts.Part.{Part}
use Rattle.pm_types.specs.declared.replies.Refusal.{Refusal}
use Rattle.pm_types.specs.declared.replies.Refusal.TheVariants.{InvalidTransferId, MissingDependencies, OperationNotPermitted}
use Rattle.pm_types.specs.declared.transfers.Header.{Header}
use Rattle.pm_types.specs.Clusters.{cluster_of, has_cluster}
use Rattle.std.specs.List.{list_any}
use Rattle.std.specs.Str.{bytes_eq}
use Rattle.pm_types.specs.NodeState.{is_in, some_passes}
use Rattle.ucm_base.specs.Needs.{Needing, Unmet}
use Rattle.pm_types.specs.Sessions.{Goal, To, CleanUp, Resume, is_wrong_tag}
use Rattle.pm_types.specs.Stored.{State}
use Rattle.node_core.specs.declared.session_rules.Goal.{Goal as Aim}
use Rattle.node_core.specs.declared.session_rules.Goal.TheVariants.{To as to, CleanUp as clean_up, Resume as resume}

-- where a call leads
abbrev pub goal_of : Aim → Goal
goal_of (to status) = To status
goal_of (clean_up outcome) = CleanUp outcome
goal_of resume = Resume

-- what refuses a package, before its parts are looked at
abbrev pub package_refusals : State → ℕ → ℕ → Option Header → List (Bool × Refusal)
package_refusals s client tag found =
    (is_wrong_tag s client tag, OperationNotPermitted)
    ∷ (is_none found, InvalidTransferId)
    ∷ (some_passes (λ h. not (is_in Transferred h)) found, OperationNotPermitted)
    ∷ []

-- what a stored transfer brings
abbrev pub contents_of : Option StoredTransfer → List (Part ℕ)
contents_of found = option_map_or (λ t. t.contents) found []

-- how many different names clusters, changes and parts have
abbrev pub count_of : List (Cluster Extent) → List (Change Extent) → List (Part ℕ) → ℕ
count_of clusters changes parts = length (names_among clusters changes parts)

-- whether a change of the cluster is planned
abbrev pub is_planned : List (Change Extent) → List ℕ → Bool
is_planned changes name = list_any (λ change. bytes_eq (cluster_of change.part) name) changes

-- whether one of the parts changes the cluster
abbrev pub is_brought : List (Part ℕ) → List ℕ → Bool
is_brought parts name = list_any (λ part. bytes_eq (cluster_of part) name) parts

-- one name more, where no cluster, no change and no part has it
abbrev pub added : List (Cluster Extent) → List (Change Extent) → List (Part ℕ) → List ℕ → ℕ
added clusters changes parts name =
    if has_cluster clusters name || is_planned changes name || is_brought parts name then 0 else 1

-- a cluster with what it needs
abbrev pub needing_of : Cluster Extent → Needing
needing_of c = record { name = c.name; version = c.version; needs = c.needs }

abbrev pub missing_dependencies : Unmet → Refusal
missing_dependencies u = MissingDependencies u.cluster u.need.name u.need.req
