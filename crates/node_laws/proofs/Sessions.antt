-- A consistent state, by whether it has a session.
use Rattle.node_laws.proofs.Names.{arith, ◌≡◌, refl, subst, ℕ, ◌-◌, ◌<◌, ◌≤◌, true, false, List, [], ◌++◌, length, ◌==◌}
use Rattle.node_laws.proofs.Names.{min, option_and_then, Option, Some, None, IfSome, IsSomeAnd, is_some, find, map}
use Rattle.node_laws.proofs.Names.{option_map_or, AllByRecursion, client_limit, cluster_limit, transfer_limit}
use Rattle.node_laws.proofs.Names.{package_limit, last_id, line_limit, names_rise, Bytes, Status, Idle, Processing}
use Rattle.node_laws.proofs.Names.{CleaningUp, BeingProcessed, Processed, NodeState, Session, Transfer, is_in}
use Rattle.node_laws.proofs.Names.{has_status, some_passes, all_units, names_among, is_of, IsConsistent, SessionIsDue}
use Rattle.node_laws.proofs.Names.{should_run, ChangesAreOf, ChangesAreDue, PartsApply, parts_in, LeavesOneToVerify}
use Rattle.node_laws.proofs.Names.{IsSound, numbers_rise, places_from}
use Rattle.node_laws.proofs.NameLists.{names_of}

-- the transfers, where ids below the next one were given
pub record Held (next : ℕ) (ts : List Transfer) : Type 0 where
  pub each : AllByRecursion (IsSound next) ts
  pub rise : numbers_rise (map (λ t. t.header.id) ts) ≡ true
  pub next_id : (1 ≤ next) × (next ≤ last_id)
  pub few : length ts ≤ transfer_limit
  pub sizes : AllByRecursion (λ t. (t.header.size ≤ package_limit) × (t.header.client < client_limit)) ts

-- what speaks of no session
pub record Base (s : NodeState) : Type 0 where
  pub held : Held s.next_id s.transfers
  pub running : names_rise (names_of s.running) ≡ true
  pub clients : (length s.last ≡ client_limit) × (length s.ended ≡ client_limit)
  pub lines : length s.lines ≡ min s.entries line_limit
  pub places : places_from (s.entries - length s.lines) s.lines ≡ true

-- the transfers in processing are those of an id, if there is one
abbrev pub InProcessing : Option ℕ → List Transfer → Type 0
InProcessing o ts = AllByRecursion (λ t. is_in BeingProcessed t.header ≡ some_passes (λ id. id == t.header.id) o) ts

-- a transfer of the owner is in processing, and its units aren't all done
abbrev pub IsUnfinished : ℕ → ℕ → List Transfer → ℕ → Type 0
IsUnfinished owner done ts id = IsSomeAnd (find (λ t. is_of owner id t.header) ts) (λ t. done < all_units t.parts)

-- what a state with this session has
pub record Busy (s : NodeState) (x : Session) : Type 0 where
  pub due : SessionIsDue s.status (Some x)
  pub runs : s.running ≡ should_run x s.status x.outcome
  pub changes : ChangesAreOf s x
  pub applies : PartsApply x.saved (parts_in s x)
  pub each : InProcessing x.processing s.transfers
  pub working : is_some x.processing ≡ has_status Processing s
  pub unfinished : IfSome x.processing (IsUnfinished x.owner x.units_done s.transfers)
  pub leaves : LeavesOneToVerify x s.status
  pub outcome : is_some x.outcome ≡ has_status CleaningUp s
  pub names : length (names_among {D = Bytes} (s.running ++ x.saved) [] (parts_in s x)) ≤ cluster_limit
  pub saved : (names_rise (names_of x.saved) ≡ true) × (x.owner < client_limit)

-- what a state without a session has
pub record Free (s : NodeState) : Type 0 where
  pub idle : s.status ≡ Idle
  pub changes : AllByRecursion (λ t. is_in Processed t.header ≡ false) s.transfers
  pub each : InProcessing None s.transfers
  pub names : length (names_among {D = Bytes} {E = Bytes} s.running [] []) ≤ cluster_limit

pub base-of : (s : NodeState) → IsConsistent s → Base s
base-of s v = grind arith

pub busy-is : (s : NodeState) (x : Session) → Base s → Busy s x → IsConsistent (record s { session = Some x })
busy-is s x b v = grind arith

pub free-is : (s : NodeState) → Base s → Free s → IsConsistent (record s { session = None })
free-is s b v = grind arith

pub busy-of : (s : NodeState) (x : Session) → s.session ≡ Some x → IsConsistent s → Busy s x
busy-of s x e v = record {
  due = subst (SessionIsDue s.status) e v.session;
  runs = subst (λ o. IfSome o (λ y. s.running ≡ should_run y s.status y.outcome)) e v.running;
  changes = subst (ChangesAreDue s) e v.changes;
  applies = subst (λ o. IfSome o (λ y. PartsApply y.saved (parts_in s y))) e v.applying;
  each =
      subst (λ (o : Option Session). InProcessing (option_and_then (λ y. y.processing) o) s.transfers)
      e v.processing.each;
  working =
      subst (λ (o : Option Session). is_some (option_and_then (λ y. y.processing) o) ≡ has_status Processing s)
      e v.processing.status;
  unfinished =
      subst (λ (o : Option Session). IfSome o
      (λ y. IfSome y.processing (IsUnfinished y.owner y.units_done s.transfers))) e v.processing.unfinished;
  leaves =
      (subst (λ o. IfSome o (λ y. LeavesOneToVerify y s.status × (is_some y.outcome ≡ has_status CleaningUp s)))
      e v.verdicts).0;
  outcome =
      (subst (λ o. IfSome o (λ y. LeavesOneToVerify y s.status × (is_some y.outcome ≡ has_status CleaningUp s)))
      e v.verdicts).1;
  names =
      subst (λ (o : Option Session). length
      (option_map_or (λ y. names_among {D = Bytes} (s.running ++ y.saved) [] (parts_in s y)) o
      (names_among {D = Bytes} {E = Bytes} s.running [] [])) ≤ cluster_limit) e v.limits.names;
  saved =
      subst (λ (o : Option Session). IfSome o (λ y. (names_rise (names_of y.saved) ≡ true) × (y.owner < client_limit)))
      e v.limits.saved;
}

pub free-of : (s : NodeState) → s.session ≡ None → IsConsistent s → Free s
free-of s e v = record {
  idle = idle s.status (subst (SessionIsDue s.status) e v.session);
  changes = subst (ChangesAreDue s) e v.changes;
  each =
      subst (λ (o : Option Session). InProcessing (option_and_then (λ y. y.processing) o) s.transfers)
      e v.processing.each;
  names =
      subst (λ (o : Option Session). length
      (option_map_or (λ y. names_among {D = Bytes} (s.running ++ y.saved) [] (parts_in s y)) o
      (names_among {D = Bytes} {E = Bytes} s.running [] [])) ≤ cluster_limit) e v.limits.names;
}
  where
    idle : (st : Status) → SessionIsDue st None → st ≡ Idle
    idle Idle h = refl
    idle _ h = absurd h

-- a fact of the state without a session, and of the state with one
pub by-session : (s : NodeState) (P : Option Session → Type 0) → (s.session ≡ None → P None)
    → ((x : Session) → s.session ≡ Some x → P (Some x)) → P s.session
by-session s P none some = grind arith
