-- States that are consistent, also in what speaks of the bytes of packages.
use Rattle.std.specs.Prelude.{◌≡◌, ℕ, ◌<◌, ◌≤◌, ⊤, IsTrue, List, [], length, map, unwrap_or, Bool, Ok}
use Rattle.std.specs.List.{AllByRecursion}
use Rattle.ucm_base.specs.declared.ids.CallNo.{CallNo}
use Rattle.ucm_base.specs.Limits.{client_limit, cluster_limit}
use Rattle.ucm_base.specs.Names.{all_differ, names_rise}
use Rattle.ucm_base.specs.Parts.{Bytes}
use Rattle.pm_types.specs.declared.calls.Call.{Call}
use Rattle.pm_types.specs.declared.clusters.Cluster.{Cluster}
use Rattle.ucm_base.specs.declared.parts.Part.{Part}
use Rattle.pm_types.specs.declared.history.Entry.{Entry}
use Rattle.pm_types.specs.declared.status.Phase.{Phase}
use Rattle.pm_types.specs.declared.status.Phase.TheVariants.{Transferring}
use Rattle.pm_types.specs.NodeState.{NodeState, Transfer}
use Rattle.pm_types.specs.Clusters.{cluster_of}
use Rattle.pm_types.specs.Sessions.{names_among}
use Rattle.pm_types.specs.Transfers.{parts_read}
use Rattle.pm_types.specs.Steps.{judge, step}
use Rattle.pm_types.specs.Histories.{Reading, verdict_for, worked, formatted, IsLegal, state_after}
use Rattle.pm_types.specs.Validity.{IsConsistent}

-- bytes that are a package have at least one part, and its parts are of different clusters
pub record IsReading (read : Reading) : Type 0 where
  pub parts_of : (bytes : List ℕ) (parts : List (Part Bytes)) → read bytes ≡ Ok parts
      → (0 < length parts) × IsTrue (all_differ (map cluster_of parts))

-- from phase Transferred on a transfer's parts are what its bytes read as
abbrev pub IsRead : Reading → Transfer → Phase → Type 0
IsRead read t Transferring = ⊤
IsRead read t _ = t.parts ≡ parts_read (read t.bytes)

-- a consistent state whose transfers are read so
pub record IsFit (read : Reading) (s : NodeState) : Type 0 where
  pub consistent : IsConsistent s
  pub read_parts : AllByRecursion (λ t. IsRead read t t.header.phase) s.transfers

-- clusters that a node can be formatted with
pub record IsInstalled (clusters : List (Cluster Bytes)) : Type 0 where
  pub rise : IsTrue (names_rise (map (λ c. c.name) clusters))
  pub few : length (names_among {D = Bytes} {E = Bytes} clusters [] []) ≤ cluster_limit

-- a formatted node is fit, and calls of its clients, units of work and whole histories leave it fit
pub record KeepsFit (read : Reading) : Type 0 where
  pub formatted : (clusters : List (Cluster Bytes)) → IsInstalled clusters → IsFit read (formatted clusters)
  pub judge : (s : NodeState) (client : ℕ) (c : Call) → client < client_limit → IsFit read s
      → IsFit read (judge s client c (verdict_for read s client c)).0
  pub step : (s : NodeState) (client : ℕ) (at : CallNo) (c : Call) → client < client_limit → IsFit read s
      → IsFit read (step s client at c (verdict_for read s client c)).0
  pub unit : (s : NodeState) (passed : Bool) → IsFit read s → IsFit read (unwrap_or (worked s passed) s)
  pub history : (s : NodeState) (entries : List Entry) → IsFit read s → IsLegal read s entries
      → IsFit read (state_after read s entries)
