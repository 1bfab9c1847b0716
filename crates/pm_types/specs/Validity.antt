-- What holds of every state that a node reaches.
use Rattle.std.specs.Prelude.{◌≡◌, ℕ, ◌+◌, ◌-◌, ◌<◌, ◌≤◌, Bool, true, not, ◌&&◌, ◌||◌, false, ◌==◌, nat_lt, min, IsTrue, IfSome, IsSomeAnd, List, [], ◌∷◌, ◌++◌, ⊤, length, map, filter, is_some, option_and_then, Option, Some, None}
use Rattle.std.specs.List.{list_any, AllByRecursion}
use Rattle.std.specs.Option.{option_map_or}
use Rattle.ucm_base.specs.Limits.{client_limit, cluster_limit, transfer_limit, package_limit, last_id, line_limit, entry_limit}
use Rattle.ucm_base.specs.Names.{all_differ, names_rise}
use Rattle.ucm_base.specs.Parts.{Bytes}
use Rattle.ucm_base.specs.declared.parts.Part.{Part}
use Rattle.pm_types.specs.declared.history.Line.{Line}
use Rattle.pm_types.specs.declared.status.Outcome.{Outcome}
use Rattle.pm_types.specs.declared.status.Outcome.TheVariants.{New}
use Rattle.pm_types.specs.declared.status.Phase.{Phase}
use Rattle.pm_types.specs.declared.status.Phase.TheVariants.{Transferring, Processing as BeingProcessed, Processed}
use Rattle.pm_types.specs.declared.status.Status.{Status}
use Rattle.pm_types.specs.declared.status.Status.TheVariants.{Idle, Processing, Verifying, Activated, RollingBack, CleaningUp}
use Rattle.pm_types.specs.declared.clusters.Cluster.{Cluster}
use Rattle.pm_types.specs.NodeState.{NodeOf, SessionOf, NodeState, Session, Transfer, is_in, has_status, some_passes}
use Rattle.pm_types.specs.Clusters.{cluster_of, planned, changes_of, all_units}
use Rattle.pm_types.specs.Sessions.{applies, names_among}
use Rattle.pm_types.specs.Transfers.{transfer_of}
use Rattle.pm_types.specs.Work.{parts_of_id}

-- a session is there exactly outside Idle, and its tag is 0 exactly where its owner isn't client 0
abbrev pub SessionIsDue : Status → Option Session → Type 0
SessionIsDue Idle (Some x) = ⊥
SessionIsDue Idle None = ⊤
SessionIsDue _ None = ⊥
SessionIsDue _ (Some x) = (x.tag == 0) ≡ not (x.owner == 0)

-- what a session says should run
abbrev pub should_run : {C : Type 0} → SessionOf C → Status → Option Outcome → List (Cluster C)
should_run x Verifying outcome = planned x.changes x.saved
should_run x Activated outcome = planned x.changes x.saved
should_run x RollingBack outcome = planned x.changes x.saved
should_run x CleaningUp (Some New) = planned x.changes x.saved
should_run x _ _ = x.saved

abbrev pub RunsWhatItShould : {C T : Type 0} → NodeOf C T → Type 0
RunsWhatItShould s = IfSome s.session (λ x. s.running ≡ should_run x s.status x.outcome)

-- a processed transfer is the owner's, and the changes with its id are its parts, all and in order
abbrev pub IsPlannedWhole : Session → Transfer → Phase → Type 0
IsPlannedWhole x t Processed =
    (t.header.client ≡ x.owner)
    × (filter (λ change. change.transfer == t.header.id) x.changes ≡ changes_of t.header.id t.parts)
IsPlannedWhole x t _ = ⊤

-- whether the id is a processed transfer's
abbrev pub is_processed : List Transfer → ℕ → Bool
is_processed transfers id = list_any (λ t. (t.header.id == id) && is_in Processed t.header) transfers

-- in these statuses nothing may be planned
abbrev pub may_plan_nothing : Status → Bool
may_plan_nothing Idle = true
may_plan_nothing Processing = true
may_plan_nothing CleaningUp = true
may_plan_nothing _ = false

-- the planned changes are the parts of the owner's processed transfers
pub record ChangesAreOf (s : NodeState) (x : Session) : Type 0 where
  pub differ : IsTrue (all_differ (map (λ change. cluster_of change.part) x.changes))
  pub whole : AllByRecursion (λ t. IsPlannedWhole x t t.header.phase) s.transfers
  pub processed : AllByRecursion (λ change. IsTrue (is_processed s.transfers change.transfer)) x.changes
  pub not_empty : IsTrue (nat_lt 0 (length x.changes) || may_plan_nothing s.status)

-- without a session no transfer is processed
abbrev pub ChangesAreDue : NodeState → Option Session → Type 0
ChangesAreDue s None = AllByRecursion (λ t. is_in Processed t.header ≡ false) s.transfers
ChangesAreDue s (Some x) = ChangesAreOf s x

-- the planned parts, and then those in processing
abbrev pub parts_in : NodeState → Session → List (Part Bytes)
parts_in s x = map (λ change. change.part) x.changes ++ option_map_or (parts_of_id s x) x.processing []

-- their names differ, and each applies to what was saved
pub record PartsApply (saved : List (Cluster Bytes)) (parts : List (Part Bytes)) : Type 0 where
  pub differ : IsTrue (all_differ (map cluster_of parts))
  pub each : AllByRecursion (λ part. IsTrue (applies part saved)) parts

-- the id in processing
abbrev pub id_in_processing : NodeState → Option ℕ
id_in_processing s = option_and_then (λ x. x.processing) s.session

-- the transfer in processing is the session's id, the owner's, and exactly in that status; its units aren't all done
pub record ProcessingIsDue (s : NodeState) : Type 0 where
  pub each : AllByRecursion (λ t. is_in BeingProcessed t.header
      ≡ some_passes (λ id. id == t.header.id) (id_in_processing s)) s.transfers
  pub status : is_some (id_in_processing s) ≡ has_status Processing s
  pub unfinished : IfSome s.session (λ x. IfSome x.processing (λ id.
      IsSomeAnd (transfer_of s x.owner id) (λ t. x.units_done < all_units t.parts)))

-- in Verifying a change is left to verify
abbrev pub LeavesOneToVerify : Session → Status → Type 0
LeavesOneToVerify x Verifying = x.verified < length x.changes
LeavesOneToVerify x _ = ⊤

-- and an outcome is there exactly in CleaningUp
abbrev pub VerdictsAreDue : NodeState → Type 0
VerdictsAreDue s = IfSome s.session (λ x. LeavesOneToVerify x s.status × (is_some x.outcome ≡ has_status CleaningUp s))

-- from phase Transferred on a transfer's bytes are whole and are a package; before there are no parts
abbrev pub IsWholeFromTransferred : Transfer → Phase → Type 0
IsWholeFromTransferred t Transferring = t.parts ≡ []
IsWholeFromTransferred t _ = (t.header.received ≡ t.header.size) × (0 < length t.parts)
    × IsTrue (all_differ (map cluster_of t.parts))

pub record IsSound (next_id : ℕ) (t : Transfer) : Type 0 where
  pub bytes : t.header.received ≡ length t.bytes
  pub size : t.header.received ≤ t.header.size
  pub counter : (1 ≤ t.header.next_counter) × (t.header.next_counter ≤ t.header.received + 1)
  pub whole : IsWholeFromTransferred t t.header.phase
  pub id : (1 ≤ t.header.id) × (t.header.id < next_id)

-- whether each number is below the next
abbrev pub numbers_rise : List ℕ → Bool
numbers_rise [] = true
numbers_rise (a ∷ []) = true
numbers_rise (a ∷ b ∷ ns) = nat_lt a b && numbers_rise (b ∷ ns)

pub record TransfersAreSound (s : NodeState) : Type 0 where
  pub each : AllByRecursion (IsSound s.next_id) s.transfers
  pub rise : IsTrue (numbers_rise (map (λ t. t.header.id) s.transfers))
  pub next_id : (1 ≤ s.next_id) × (s.next_id ≤ last_id)

-- the different names of what runs, was saved, is planned and is in processing
abbrev pub all_names : NodeState → List (List ℕ)
all_names s = option_map_or
    (λ x. names_among {D = Bytes} (s.running ++ x.saved) [] (parts_in s x)) s.session
    (names_among {D = Bytes} {E = Bytes} s.running [] [])

-- the lines have the places from this one on
abbrev pub places_from : ℕ → List Line → Bool
places_from place [] = true
places_from place (line ∷ lines) = (line.place == place) && places_from (place + 1) lines

pub record LimitsHold (s : NodeState) : Type 0 where
  pub names : length (all_names s) ≤ cluster_limit
  pub running : IsTrue (names_rise (map (λ c. c.name) s.running))
  pub saved : IfSome s.session (λ x. IsTrue (names_rise (map (λ c. c.name) x.saved)) × (x.owner < client_limit))
  pub transfers : length s.transfers ≤ transfer_limit
  pub sizes : AllByRecursion (λ t. (t.header.size ≤ package_limit) × (t.header.client < client_limit)) s.transfers
  pub clients : (length s.last ≡ client_limit) × (length s.ended ≡ client_limit)
  pub lines : length s.lines ≡ min s.entries line_limit
  pub places : IsTrue (places_from (s.entries - length s.lines) s.lines)

-- all that belongs together in a state, as every call and every unit keeps it
pub record IsConsistent (s : NodeState) : Type 0 where
  pub session : SessionIsDue s.status s.session
  pub running : RunsWhatItShould s
  pub changes : ChangesAreDue s s.session
  pub applying : IfSome s.session (λ x. PartsApply x.saved (parts_in s x))
  pub processing : ProcessingIsDue s
  pub verdicts : VerdictsAreDue s
  pub transfers : TransfersAreSound s
  pub limits : LimitsHold s

-- a state that a node can reach: it is consistent, and its entries can be counted
pub record IsValid (s : NodeState) : Type 0 where
  pub consistent : IsConsistent s
  pub entries : s.entries ≤ entry_limit
