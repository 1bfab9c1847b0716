-- The master's entries on a named node: the calls of the rounds, then those of the end phase.
use Rattle.std.specs.Prelude.{◌≡◌, ℕ, ◌≤◌, Bool, true, false, not, ◌&&◌, ◌||◌, if◌then◌else◌, nat_eq, nat_lt, IsTrue, List, [], ◌∷◌, ◌++◌, length, Option, Some, None}
use Rattle.std.specs.List.{list_any, list_all}
use Rattle.std.specs.Option.{option_map_or}
use Rattle.ucm_base.specs.declared.ids.CallNo.{CallNo}
use Rattle.pm_types.specs.declared.calls.Call.{Call}
use Rattle.pm_types.specs.declared.calls.Call.TheVariants.{ProcessSwPackage, Activate, Finish, Rollback, RevertProcessedSwPackages as Revert}
use Rattle.pm_types.specs.declared.history.Entry.{Entry}
use Rattle.pm_types.specs.declared.history.Entry.TheVariants.{Numbered, Unit as UnitDone}
use Rattle.pm_types.specs.declared.replies.Reply.TheVariants.{Done}
use Rattle.pm_types.specs.declared.status.Status.TheVariants.{Activated}
use Rattle.pm_types.specs.NodeState.{NodeState, has_status, is_working}
use Rattle.pm_types.specs.Histories.{Reading, after_entry}
use Rattle.campaign_core.specs.declared.events.Decision.TheVariants.{Commit}
use Rattle.campaign_core.specs.declared.events.MasterEvent.{MasterEvent}
use Rattle.campaign_core.specs.declared.events.Phase.{Phase}
use Rattle.campaign_core.specs.declared.events.MasterEvent.TheVariants.{Start, Begin, PhaseTo, VoteOf, Decide, EndedAt}
use Rattle.sub_core.specs.Made.{Made, IsOfRounds, ends_at_rest, has_none, is_end_call}
use Rattle.world.specs.Sends.{is_due}

-- a client's entries of a history, in order
abbrev pub made_by : ℕ → List Entry → List Made
made_by client [] = []
made_by client (UnitDone passed after ∷ es) = made_by client es
made_by client (Numbered c at call reply ∷ es) =
    if nat_eq c client then record { at = at; call = call; reply = reply } ∷ made_by client es else made_by client es

-- the epoch of the Begin, where there is one; the first argument is that of the last Start
abbrev pub epoch_of_begin : ℕ → List MasterEvent → Option ℕ
epoch_of_begin epoch [] = None
epoch_of_begin epoch (Start e ∷ es) = epoch_of_begin e es
epoch_of_begin epoch (Begin k named ∷ es) = Some epoch
epoch_of_begin epoch (_ ∷ es) = epoch_of_begin epoch es

-- in the epoch of Begin; without a Begin nothing is sent
abbrev pub IsOfRoundsIn : Option ℕ → ℕ → List (List ℕ) → List Made → Type 0
IsOfRoundsIn None k packages made = made ≡ []
IsOfRoundsIn (Some epoch) k packages made = IsOfRounds k epoch 1 packages made

-- whether an event decides
abbrev pub is_decision : MasterEvent → Bool
is_decision (Decide _) = true
is_decision _ = false

-- whether the campaign was decided
abbrev pub has_decision : List MasterEvent → Bool
has_decision list = list_any is_decision list

-- whether an event decides Commit
abbrev pub is_commit : MasterEvent → Bool
is_commit (Decide Commit) = true
is_commit _ = false

-- whether Commit was decided
abbrev pub has_commit : List MasterEvent → Bool
has_commit list = list_any is_commit list

-- the newest phase of the list
abbrev pub phase_in : Option Phase → List MasterEvent → Option Phase
phase_in phase [] = phase
phase_in phase (PhaseTo p ∷ es) = phase_in (Some p) es
phase_in phase (_ ∷ es) = phase_in phase es

-- the rounds have begun at a node where a phase or its vote is there
abbrev pub shows_begun : ℕ → MasterEvent → Bool
shows_begun n (PhaseTo phase) = true
shows_begun n (VoteOf m vote) = nat_eq m n
shows_begun n _ = false

-- whether an event starts the epoch
abbrev pub is_start_of : ℕ → MasterEvent → Bool
is_start_of epoch (Start e) = nat_eq e epoch
is_start_of epoch _ = false

-- a number of an epoch that was started, after these first numbers of the epoch of Begin
abbrev pub is_later_than : Option ℕ → ℕ → List MasterEvent → CallNo → Bool
is_later_than None sent list at = false
is_later_than (Some epoch) sent list at =
    list_any (is_start_of at.epoch) list && (not (nat_eq at.epoch epoch) || nat_lt sent at.number)

-- whether an event ends the node
abbrev pub is_end_of : ℕ → MasterEvent → Bool
is_end_of n (EndedAt m outcome) = nat_eq m n
is_end_of n _ = false

-- whether the node has ended
abbrev pub has_end : ℕ → List MasterEvent → Bool
has_end n list = list_any (is_end_of n) list

-- first calls of the rounds, which sent so many messages to the node, and then calls of the end phase, under later
-- numbers
pub record GoesInOrder (k n : ℕ) (packages : List (List ℕ)) (list : List MasterEvent) (made : List Made) : Type 0 where
  pub rounds : List Made
  pub ends : List Made
  pub sent : ℕ
  pub split : made ≡ rounds ++ ends
  pub first : IsOfRoundsIn (epoch_of_begin 0 list) k packages rounds
  -- no call's round is after the phase
  pub due : IsTrue (list_all (λ m. is_due (phase_in None list) m.call) rounds)
  pub within : length rounds ≤ sent
  pub begun : IsTrue (list_any (shows_begun n) list) → 1 ≤ sent
  pub calls : IsTrue (list_all (λ m. is_end_call m.call) ends)
  pub later : IsTrue (list_all (λ m. is_later_than (epoch_of_begin 0 list) sent list m.at) ends)
  -- the end phase sends only after a decision
  pub decided : IsTrue (has_decision list || has_none ends)
  -- a node that has ended was seen at rest by the last of these calls
  pub rest : IsTrue (has_end n list) → IsTrue (ends_at_rest ends)

-- an accepted Finish of client 0
abbrev pub is_finish : Entry → Bool
is_finish (Numbered client at Finish Done) = nat_eq client 0
is_finish _ = false

-- whether client 0 finished an Activated node
abbrev pub finishes_new : Reading → NodeState → List Entry → Bool
finishes_new read s [] = false
finishes_new read s (e ∷ es) = (is_finish e && has_status Activated s) || finishes_new read (after_entry read s e) es

-- a call of client 0 for which its session is at rest
abbrev pub needs_rest : Entry → Bool
needs_rest (Numbered client at (ProcessSwPackage id tag) reply) = nat_eq client 0
needs_rest (Numbered client at Activate reply) = nat_eq client 0
needs_rest _ = false

-- whether client 0's own session has units to do
abbrev pub is_at_work : NodeState → Bool
is_at_work s = is_working s.status && option_map_or (λ x. nat_eq x.owner 0) s.session false

-- whether client 0 called before the units of its session were done
abbrev pub hurries : Reading → NodeState → List Entry → Bool
hurries read s [] = false
hurries read s (e ∷ es) = (needs_rest e && is_at_work s) || hurries read (after_entry read s e) es

-- Rollback and RevertProcessedSwPackages, whatever their reply
abbrev pub goes_back : Call → Bool
goes_back Rollback = true
goes_back Revert = true
goes_back _ = false

-- an Activated node is finished only after Commit, and after it no node goes back; units are waited for
pub record GoesByDecision (read : Reading) (opening : NodeState) (list : List MasterEvent) (history : List Entry) : Type
    0 where
  pub waits : IsTrue (not (hurries read opening history))
  pub finish : IsTrue (finishes_new read opening history) → IsTrue (has_commit list)
  pub back : IsTrue (has_commit list) → IsTrue (not (list_any (λ m. goes_back m.call) (made_by 0 history)))
