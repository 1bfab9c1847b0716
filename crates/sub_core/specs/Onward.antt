-- How the end phase goes on, in the campaign law's words.
use Rattle.std.specs.Prelude.{◌≡◌, ◌⊎◌, ◌<◌, ℕ, zero, suc, Bool, true, false, is_some, List, [], ◌∷◌, length, slice_index_or, Some}
use Rattle.ucm_base.specs.Limits.{attempt_limit}
use Rattle.ucm_base.specs.declared.ids.CallNo.{CallNo}
use Rattle.campaign_core.specs.declared.events.Cause.{Cause}
use Rattle.pm_types.specs.NodeState.{is_working}
use Rattle.pm_types.specs.declared.calls.Call.{Call}
use Rattle.pm_types.specs.declared.replies.Refusal.{Refusal}
use Rattle.pm_types.specs.declared.replies.Reply.TheVariants.{Done, Refused, Synced}
use Rattle.pm_types.specs.declared.replies.Synced.{Synced as Shown}
use Rattle.pm_types.specs.declared.status.Status.{Status}
use Rattle.world.specs.Messages.{Message, Told, Answered, Showed}
use Rattle.world.specs.Sends.{end_call, is_end_sync, is_masters, last_shown, session_status}
use Rattle.sub_core.specs.declared.answers.Round.{Round}
use Rattle.sub_core.specs.declared.answers.SendStep.{SendStep}
use Rattle.sub_core.specs.declared.answers.Todo.{Todo}
use Rattle.sub_core.specs.Calls.{call_of}
use Rattle.sub_core.specs.Driving.{next_no, todo}
use Rattle.sub_core.specs.Ending.{has_end_answer}
use Rattle.sub_core.specs.Given.{AreGiven, Given, IsTask, Task, after, told_of}
use Rattle.sub_core.specs.Sends.{decision_of}
use Rattle.sub_core.specs.States.{DriverState}

-- the newest that was told is this status of the master's session, by a Sync of the end phase or by a unit after one
abbrev pub ShowsNow : ℕ → ℕ → Status → List Told → Type 0
ShowsNow k epoch status [] = ⊥
ShowsNow k epoch status (Showed s ∷ told) = (s ≡ status) × (is_some (last_shown k epoch told) ≡ true)
ShowsNow k epoch status (Answered m reply ∷ told) =
    (x : Shown) × (reply ≡ Synced x) × (is_end_sync k epoch m ≡ true) × (is_masters x.session ≡ true)
    × (session_status x.session ≡ status)

-- the call that the decision has for a status, or a Sync where it has none
abbrev pub IsNextAt : Bool → Status → Call → Type 0
IsNextAt commit status call =
    ((cause : Cause) → end_call (decision_of commit cause) status call ≡ true)
    ⊎ ((call ≡ Call.Sync) × ((cause : Cause) (other : Call) → end_call (decision_of commit cause) status other ≡ false))

-- a unit is asked for where the node works, and else that call
abbrev pub GoesOn : List (List ℕ) → Bool → Status → Todo → Type 0
GoesOn lent commit status asked =
    ((is_working status ≡ true) × (asked ≡ Todo.Unit))
    ⊎ ((is_working status ≡ false)
    × ((call_no : CallNo) × (step : SendStep) × (asked ≡ Todo.Send call_no step)
    × IsNextAt commit status (call_of lent step)))

-- not eight attempts in a row failed at what is asked
abbrev pub HasFew : DriverState → Type 0
HasFew d = length d.misses < attempt_limit

-- until an answer to a message of it was told, the end phase asks for a Sync
abbrev pub EndBeginsWithSync : Type 0
EndBeginsWithSync =
    (lent : List (List ℕ)) (task : Task) (gs : List Given) → IsTask lent task → AreGiven task gs
    → (commit : Bool) → (after task gs).round ≡ Some (Round.End commit) → HasFew (after task gs)
    → has_end_answer (told_of lent task gs) ≡ false
    → todo (after task gs) ≡ Todo.Send (next_no (after task gs)) SendStep.Sync

-- behind each status that was told at the end the driver goes on so, unless eight attempts failed
abbrev pub EndGoesOn : Type 0
EndGoesOn =
    (lent : List (List ℕ)) (task : Task) (gs : List Given) → IsTask lent task → AreGiven task gs
    → (commit : Bool) → (after task gs).round ≡ Some (Round.End commit) → HasFew (after task gs)
    → (status : Status) → ShowsNow task.campaign task.epoch status (told_of lent task gs)
    → GoesOn lent commit status (todo (after task gs))

-- the newest that was told are so many deletions, behind a Sync of the end phase that shows no session of the master
-- and lists these transfers
abbrev pub AreDeleted : ℕ → ℕ → List ℕ → ℕ → List Told → Type 0
AreDeleted k epoch ids count [] = ⊥
AreDeleted k epoch ids count (Showed status ∷ told) = ⊥
AreDeleted k epoch ids zero (Answered m reply ∷ told) =
    (x : Shown) × (reply ≡ Synced x) × (is_end_sync k epoch m ≡ true) × (is_masters x.session ≡ false)
    × (x.transfers ≡ ids)
AreDeleted k epoch ids (suc count) (Answered m reply ∷ told) =
    (reply ≡ Done) × (m.decided ≡ true) × AreDeleted k epoch ids count told

-- and then it deletes the next of them; behind the last one it asks for a Sync
abbrev pub ListedAreDeleted : Type 0
ListedAreDeleted =
    (lent : List (List ℕ)) (task : Task) (gs : List Given) → IsTask lent task → AreGiven task gs
    → (commit : Bool) → (after task gs).round ≡ Some (Round.End commit) → HasFew (after task gs)
    → (ids : List ℕ) (count : ℕ) → AreDeleted task.campaign task.epoch ids count (told_of lent task gs)
    → (count < length ids
    → todo (after task gs) ≡ Todo.Send (next_no (after task gs)) (SendStep.Delete (slice_index_or ids count 0)))
    × (0 < count → count ≡ length ids → todo (after task gs) ≡ Todo.Send (next_no (after task gs)) SendStep.Sync)

-- behind the Done of a call that a status led to it asks for units
abbrev pub DoneLeadsToUnits : Type 0
DoneLeadsToUnits =
    (lent : List (List ℕ)) (task : Task) (gs : List Given) → IsTask lent task → AreGiven task gs
    → (commit : Bool) → (after task gs).round ≡ Some (Round.End commit) → HasFew (after task gs)
    → (m : Message) (older : List Told) → told_of lent task gs ≡ Answered m Done ∷ older → m.decided ≡ true
    → (status : Status) → ShowsNow task.campaign task.epoch status older → todo (after task gs) ≡ Todo.Unit

-- and behind a refusal it asks for a Sync
abbrev pub RefusalsLeadToSync : Type 0
RefusalsLeadToSync =
    (lent : List (List ℕ)) (task : Task) (gs : List Given) → IsTask lent task → AreGiven task gs
    → (commit : Bool) → (after task gs).round ≡ Some (Round.End commit) → HasFew (after task gs)
    → (m : Message) (why : Refusal) (older : List Told) → told_of lent task gs ≡ Answered m (Refused why) ∷ older
    → todo (after task gs) ≡ Todo.Send (next_no (after task gs)) SendStep.Sync
