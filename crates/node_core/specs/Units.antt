-- Units of work.
use Rattle.std.specs.Prelude.{option_map, option_and_then, ◌≤◌, ◌<◌, ◌^◌}
use Rattle.std.specs.Prelude.{◌≡◌, ℕ, ◌+◌, ◌*◌, min, nat_lt, if◌then◌else◌, Bool, false, ⊤, List, length, unwrap_or, IfSome, Option, Some, None, [], ◌∷◌, ◌-◌}
use Rattle.ucm_base.specs.Limits.{block_limit, cluster_limit}
use Rattle.ucm_base.specs.Parts.{Bytes}
use Rattle.pm_types.specs.declared.clusters.Change.{Change}
use Rattle.ucm_base.specs.declared.parts.Part.{Part}
use Rattle.pm_types.specs.declared.state.StoredTransfer.{StoredTransfer}
use Rattle.pm_types.specs.declared.clusters.Cluster.{Cluster}
use Rattle.pm_types.specs.declared.clusters.Extent.{Extent}
use Rattle.pm_types.specs.declared.replies.Worked.{Worked}
use Rattle.pm_types.specs.declared.replies.Worked.TheVariants.{Unit, Nothing}
use Rattle.pm_types.specs.declared.status.Status.{Status}
use Rattle.pm_types.specs.declared.status.Status.TheVariants.{Processing, Activating, RollingBack}
use Rattle.pm_types.specs.NodeState.{NodeState, SessionOf}
use Rattle.pm_types.specs.Clusters.{planned, stored_units, units_of}
use Rattle.pm_types.specs.Histories.{unit_passes, worked}
use Rattle.pm_types.specs.Stored.{Areas, State, transfer_meaning}
use Rattle.transfer_blocks.specs.declared.area.Area.{Area}
use Rattle.transfer_blocks.specs.declared.area.Area.TheVariants.{Side}
use Rattle.transfer_blocks.specs.Table.{stored_of}
use Rattle.package_reader.specs.Lies.{payload_at}
use Rattle.node_core.specs.declared.copying.NextUnit.{NextUnit}
use Rattle.node_core.specs.declared.copying.Piece.{Piece}
use Rattle.pm_types.specs.Work.{process, unit, work_on}
use Rattle.pm_types.specs.Steps.{with_entry}
use Rattle.pm_types.specs.declared.history.Happened.TheVariants.{Unit as UnitAfter}
use Rattle.std.specs.Option.{option_map_or}
use Rattle.node_core.specs.declared.plan.Planned.{Planned as Lent}
use Rattle.node_core.specs.declared.prepared.Prepared.{Prepared}
use Rattle.node_core.specs.declared.prepared.Prepared.TheVariants.{Changes as Planned, Clusters}
use Rattle.node_core.specs.Core.{Holding, IsSound, Readied, kept_by, node_of, over}
use Rattle.node_core.specs.Sessions.{contents_of}
use Rattle.node_core.specs.Packages.{package_reading}
use Rattle.node_core.specs.Places.{AreCopied, extents_in}

-- the unit that was done, or that there is none
abbrev pub answer_of : Status → Bool → Option NodeState → Worked
answer_of status passed (Some after) = Unit passed after.status
answer_of status passed None = Nothing status

-- what a node answers that is asked for a unit of work, where these clusters fail
abbrev pub answer_to : List (List ℕ) → NodeState → Worked
answer_to fails s = answer_of s.status (unit_passes fails s) (unit s (unit_passes fails s))

-- the node afterwards: with the unit and its line, where there is one
abbrev pub after_work : List (List ℕ) → NodeState → NodeState
after_work fails s = unwrap_or (worked s (unit_passes fails s)) s

-- the clusters that are ready
abbrev pub clusters_kept : Prepared → Option (List (Cluster Extent))
clusters_kept (Clusters clusters) = Some clusters
clusters_kept _ = None

-- the changes that are ready
abbrev pub plan_kept : Prepared → Option (List (Change Extent))
plan_kept (Planned changes) = Some changes.items
plan_kept _ = None

-- the changes of parts whose payloads go to these extents
abbrev pub changes_to : ℕ → List (Part ℕ) → List Extent → List (Change Extent)
changes_to id (part ∷ parts) (extent ∷ extents) =
    record { transfer = id; part = record { manifest = part.manifest; payload = extent } } ∷ changes_to id parts extents
changes_to id _ _ = []

-- what the unit behind these done ones plans: the changes, if it is the last one
abbrev pub changes_due : ℕ → ℕ → List (Part ℕ) → List Extent → Option (List (Change Extent))
changes_due done id parts extents =
    if nat_lt (done + 1) (stored_units parts) then None else Some (changes_to id parts extents)

-- what the next unit of a transfer needs: its bytes lie behind the done ones, and the last one's changes are ready
pub record IsPackageReady (v : Holding) (x : SessionOf Extent) (id : ℕ) (t : StoredTransfer) : Type 0 where
  pub bytes : AreCopied v.areas (x.units_done + 1) (transfer_meaning package_reading v.areas t).parts
      (extents_in v.state t)
  pub changes : nat_lt (x.units_done + 1) (stored_units t.contents) ≡ false
      → plan_kept v.prepared ≡ Some (changes_to id t.contents (extents_in v.state t))

-- what the next unit of a session needs is there
abbrev pub IsUnitReady : Status → Holding → SessionOf Extent → Type 0
IsUnitReady Processing v x =
    IfSome x.processing (λ id. IfSome (stored_of v.state.transfers x.owner id) (IsPackageReady v x id))
IsUnitReady Activating v x = clusters_kept v.prepared ≡ Some (planned x.changes x.saved)
IsUnitReady RollingBack v x = clusters_kept v.prepared ≡ Some x.saved
IsUnitReady _ v x = ⊤

abbrev pub IsReservedWork : Holding → Type 0
IsReservedWork v = IfSome v.state.session (IsUnitReady v.state.status v)

-- over each areas over which the node is sound and all is ready for its next unit, this holds
abbrev pub AllWorkReady : Readied → (Holding → Type 0) → Type 0
AllWorkReady r P = (areas : Areas) → IsSound (over areas r) → IsReservedWork (over areas r) → P (over areas r)

-- over some areas the node is sound, and all is ready for its next unit
abbrev pub SomeWorkReady : Readied → Type 0
SomeWorkReady r = (areas : Areas) × IsSound (over areas r) × IsReservedWork (over areas r)

-- the stored state after a unit of a package, whose last one plans the changes that are ready
abbrev pub process_stored : Readied → SessionOf Extent → ℕ → State
process_stored r x id =
    process (kept_by r) (stored_units (contents_of (stored_of r.state.transfers x.owner id)))
    (unwrap_or (plan_kept r.prepared) []) r.state x id

-- the stored state after the next unit, where there is one
abbrev pub unit_stored : Readied → Bool → Option State
unit_stored r passed =
    option_and_then (λ x. work_on (kept_by r) (process_stored r x) r.state x passed r.state.status) r.state.session

-- the stored state after work that gave this answer: with the unit and its line
abbrev pub state_worked : Readied → Worked → State
state_worked r (Unit passed after) = option_map_or (with_entry (UnitAfter after)) (unit_stored r passed) r.state
state_worked r (Nothing status) = r.state

-- work was done: the answer and the node are the definition's, and the node is sound
pub record IsWorked (old : Holding) (fails : List (List ℕ)) (worked : Worked) (new : Holding) : Type 0 where
  pub answer : worked ≡ answer_to fails (node_of old)
  pub node : node_of new ≡ after_work fails (node_of old)
  pub sound : IsSound new

-- the cluster that would run
abbrev pub planned_of : Lent → Cluster Extent
planned_of c = record { name = c.name.now; version = c.version.now; needs = c.needs.now; content = c.content }

-- payloads that go to these extents lie in the bytes of a package, from a part's place on
abbrev pub LieWithin : Bytes → ℕ → List Extent → Type 0
LieWithin content place [] = ⊤
LieWithin content place (extent ∷ extents) =
    let behind = payload_at content place + extent.length in
    (behind ≤ length content) × LieWithin content behind extents

-- the next unit behind these done ones, of payloads that go to these extents: a piece of the first that isn't whole
abbrev pub piece_of : Bytes → ℕ → ℕ → List Extent → Option Piece
piece_of content place done [] = None
piece_of content place done (extent ∷ extents) =
    let start = payload_at content place in
    let at = done * block_limit in
    if nat_lt done (units_of extent.length)
    then Some (record { from = start + at; at = at; len = min (extent.length - at) block_limit; to = extent })
    else piece_of content (start + extent.length) (done - units_of extent.length) extents

abbrev pub side_of : Extent → Area
side_of extent = Side extent.place extent.side

-- the unit that comes next: of the package in processing, behind the units done
pub record IsUnitOf (s : State) (n : NextUnit) : Type 0 where
  pub x : SessionOf Extent
  pub id : ℕ
  pub transfer : StoredTransfer
  pub session : s.session ≡ Some x
  pub processing : x.processing ≡ Some id
  pub stored : stored_of s.transfers x.owner id ≡ Some transfer
  pub slot : n.slot ≡ transfer.slot
  pub done : n.done ≡ x.units_done
  pub extents : n.extents.items ≡ extents_in s transfer
  pub changes : option_map (λ v. v.items) n.changes
      ≡ changes_due x.units_done id transfer.contents (extents_in s transfer)

-- there is none where no package is in processing
abbrev pub IsNextUnit : State → Option NextUnit → Type 0
IsNextUnit s None = IfSome s.session (λ x. IfSome x.processing (λ id. stored_of s.transfers x.owner id ≡ None))
IsNextUnit s (Some n) = IsUnitOf s n

-- where a package is in processing its units can be counted, and its changes find room
abbrev pub CanProcess : State → Type 0
CanProcess s = s.status ≡ Processing → IfSome s.session (λ x. IfSome x.processing (λ id. (x.units_done + 1 < 2 ^ 32)
    × (length x.changes + length (contents_of (stored_of s.transfers x.owner id)) ≤ cluster_limit)))
