-- The status table: what a call on the node's session is refused by, and what it does.
use Rattle.std.specs.Prelude.{ℕ, Bool, true, false, not, ◌||◌, ◌&&◌, ◌==◌, nat_le, if◌then◌else◌, List, [], ◌∷◌, ◌++◌, length, map, is_none, unwrap_or, option_map, Option, Some, None, Ok}
use Rattle.std.specs.List.{list_any}
use Rattle.std.specs.Option.{option_or, option_map_or}
use Rattle.std.specs.Str.{bytes_eq}
use Rattle.ucm_base.specs.declared.parts.Action.{Action}
use Rattle.ucm_base.specs.declared.parts.Action.TheVariants.{Install, Update, Remove}
use Rattle.ucm_base.specs.Limits.{cluster_limit}
use Rattle.ucm_base.specs.Names.{different_names}
use Rattle.ucm_base.specs.Parts.{Bytes}
use Rattle.ucm_base.specs.declared.parts.Part.{Part}
use Rattle.ucm_base.specs.Versions.{is_newer}
use Rattle.pm_types.specs.declared.calls.Call.{Call}
use Rattle.pm_types.specs.declared.calls.Call.TheVariants.{ProcessSwPackage, Activate, Finish, Rollback, RevertProcessedSwPackages, Cancel}
use Rattle.pm_types.specs.declared.status.Outcome.{Outcome}
use Rattle.pm_types.specs.declared.status.Outcome.TheVariants.{New, Old}
use Rattle.pm_types.specs.declared.status.Phase.TheVariants.{Transferred, Processing as BeingProcessed}
use Rattle.pm_types.specs.declared.replies.Refusal.{Refusal}
use Rattle.pm_types.specs.declared.replies.Refusal.TheVariants.{InvalidTransferId, OperationNotPermitted, ServiceBusy, OldVersion, MissingDependencies, ActionNotApplicable, TooManyClusters, ClusterAlreadyChanged}
use Rattle.pm_types.specs.declared.status.Status.{Status}
use Rattle.pm_types.specs.declared.status.Status.TheVariants.{Idle, Ready, Processing, Activating, Verifying, Activated, RollingBack, RolledBack, CleaningUp}
use Rattle.pm_types.specs.declared.transfers.Header.{Header}
use Rattle.pm_types.specs.declared.clusters.Cluster.{Cluster}
use Rattle.pm_types.specs.declared.clusters.Change.{Change}
use Rattle.pm_types.specs.NodeState.{NodeOf, NodeState, SessionOf, Transfer, is_in, some_passes}
use Rattle.pm_types.specs.Clusters.{cluster_of, cluster_at, has_cluster, planned, unmet_among}
use Rattle.pm_types.specs.Transfers.{Keeping, with_bytes, with_phase, parts_of}
use Rattle.pm_types.specs.Refusals.{first_refusal}

-- where a call leads: to a status, to cleaning up with an outcome, or back to what was before processing
pub data Goal : Type 0 where
  To : Status → Goal
  CleanUp : Outcome → Goal
  Resume : Goal

-- the status table; None is its dash
abbrev pub status_table : Status → Call → Option Goal
status_table Idle (ProcessSwPackage id tag) = Some (To Processing)
status_table Ready (ProcessSwPackage id tag) = Some (To Processing)
status_table Ready Activate = Some (To Activating)
status_table Ready RevertProcessedSwPackages = Some (CleanUp Old)
status_table Processing (Cancel id) = Some Resume
status_table Verifying Rollback = Some (To RollingBack)
status_table Activated Finish = Some (CleanUp New)
status_table Activated Rollback = Some (To RollingBack)
status_table RolledBack Finish = Some (CleanUp Old)
status_table _ _ = None

-- what refuses each of the six calls first: another owner's session, and a dash
abbrev pub session_refusals : {C T : Type 0} → NodeOf C T → ℕ → Call → List (Bool × Refusal)
session_refusals s client call =
    (some_passes (λ x. not (x.owner == client)) s.session, ServiceBusy)
    ∷ (is_none (status_table s.status call), OperationNotPermitted)
    ∷ []

-- the master has a tag, others have none, and a session keeps to its own
abbrev pub is_wrong_tag : {C T : Type 0} → NodeOf C T → ℕ → ℕ → Bool
is_wrong_tag s client tag =
    (if client == 0 then tag == 0 else not (tag == 0)) || some_passes (λ x. not (x.tag == tag)) s.session

-- the planned changes
abbrev pub changes_in : {C T : Type 0} → NodeOf C T → List (Change C)
changes_in s = option_map_or (λ x. x.changes) s.session []

abbrev pub is_install : Action → Bool
is_install Install = true
is_install _ = false

abbrev pub is_update : Action → Bool
is_update Update = true
is_update _ = false

-- an Install's name isn't there, an Update's or a Remove's is
abbrev pub suits : Action → Bool → Bool
suits Install there = not there
suits Update there = there
suits Remove there = there

abbrev pub applies : {C D : Type 0} → Part C → List (Cluster D) → Bool
applies part clusters = suits part.manifest.action (has_cluster clusters (cluster_of part))

-- an Update must be of higher precedence than what runs
abbrev pub is_old : {C D : Type 0} → Part C → List (Cluster D) → Bool
is_old part clusters =
    is_update part.manifest.action
    && some_passes (λ c. not (is_newer part.manifest.version c.version)) (cluster_at clusters (cluster_of part))

-- the different names of running clusters, of planned changes and of further parts
abbrev pub names_among : {C D E : Type 0} → List (Cluster C) → List (Change D) → List (Part E) → List (List ℕ)
names_among clusters changes parts =
    different_names (map (λ c. c.name) clusters ++ map (λ change. cluster_of change.part) changes
    ++ map cluster_of parts)

-- what refuses a part of a package, where some parts stand before it
abbrev pub part_refusals : {C D E : Type 0} → List (Cluster C) → List (Change D) → List (Part E) → Part E
    → List (Bool × Refusal)
part_refusals running changes before part =
    (list_any (λ change. bytes_eq (cluster_of change.part) (cluster_of part)) changes, ClusterAlreadyChanged)
    ∷ (not (applies part running), ActionNotApplicable)
    ∷ (is_old part running, OldVersion)
    ∷ (
      is_install part.manifest.action && nat_le cluster_limit (length (names_among running changes before)),
      TooManyClusters,
    )
    ∷ []

-- the refusal of the first part that has one
abbrev pub parts_refusal : {C D E : Type 0} → List (Cluster C) → List (Change D) → List (Part E) → List (Part E)
    → Option Refusal
parts_refusal running changes before [] = None
parts_refusal running changes before (part ∷ parts) =
    option_or (first_refusal (part_refusals running changes before part))
    (parts_refusal running changes (before ++ part ∷ []) parts)

abbrev pub process_refusal : NodeState → ℕ → ℕ → Option Transfer → Option Refusal
process_refusal s client tag found = option_or
    (first_refusal (
    (is_wrong_tag s client tag, OperationNotPermitted)
    ∷ (is_none found, InvalidTransferId)
    ∷ (some_passes (λ t. not (is_in Transferred t.header)) found, OperationNotPermitted)
    ∷ []))
    (parts_refusal s.running (changes_in s) [] (parts_of found))

-- the clusters that would run after the planned changes
abbrev pub planned_clusters : {C T : Type 0} → NodeOf C T → List (Cluster C)
planned_clusters s = option_map_or (λ x. planned x.changes x.saved) s.session s.running

abbrev pub activate_refusal : {C T : Type 0} → NodeOf C T → Option Refusal
activate_refusal s =
    option_map (λ u. MissingDependencies u.cluster u.need.name u.need.req) (unmet_among (planned_clusters s))

abbrev pub cancel_refusals : Option Header → List (Bool × Refusal)
cancel_refusals found =
    (is_none found, InvalidTransferId)
    ∷ (some_passes (λ h. not (is_in BeingProcessed h)) found, OperationNotPermitted)
    ∷ []

-- a session that begins
abbrev pub new_session : {C T : Type 0} → NodeOf C T → ℕ → ℕ → SessionOf C
new_session s client tag = record {
  owner = client;
  tag = tag;
  saved = s.running;
  changes = [];
  processing = None;
  units_done = 0;
  verified = 0;
  outcome = None;
}

-- the session goes on with a package, or begins with it
abbrev pub take_up : {C T : Type 0} → Keeping T → NodeOf C T → ℕ → ℕ → ℕ → NodeOf C T
take_up k s client id tag =
    let x = unwrap_or s.session (new_session s client tag) in
    record (with_phase k id BeingProcessed s) {
      session = Some (record x { processing = Some id; units_done = 0 });
    }

abbrev pub begin_processing : NodeState → ℕ → ℕ → ℕ → NodeState
begin_processing s client id tag = take_up (with_bytes (Ok [])) s client id tag

-- the session with a change, where there is one
abbrev pub changed_session : {C T : Type 0} → (SessionOf C → SessionOf C) → NodeOf C T → Option (SessionOf C)
changed_session change s = option_map change s.session

-- the package in processing is whole again, and not yet processed
abbrev pub put_back : {C T : Type 0} → Keeping T → NodeOf C T → ℕ → NodeOf C T
put_back k s id = record (with_phase k id Transferred s) {
  session = changed_session (λ x. record x { processing = None }) s;
}

abbrev pub stop_processing : NodeState → ℕ → NodeState
stop_processing s id = put_back (with_bytes (Ok [])) s id

abbrev pub clean_up : {C T : Type 0} → Outcome → NodeOf C T → NodeOf C T
clean_up outcome s = record s {
  status = CleaningUp;
  session = changed_session (λ x. record x { outcome = Some outcome }) s;
}

-- Resume: Ready where there is a planned change, else nothing is left to do
abbrev pub arrive : {C T : Type 0} → NodeOf C T → Goal → NodeOf C T
arrive s (To status) = record s { status = status }
arrive s (CleanUp outcome) = clean_up outcome s
arrive s Resume = elim (changes_in s) [ [] ↦ clean_up Old s | change ∷ changes ↦ record s { status = Ready } ]

-- the state goes where the table leads from its status
abbrev pub led_by : {C T : Type 0} → Call → NodeOf C T → NodeOf C T
led_by call s = option_map_or (arrive s) (status_table s.status call) s
