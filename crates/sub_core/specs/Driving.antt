-- What a driver asks for next, and what an answer makes of it.
use Rattle.std.specs.Prelude.{◌≡◌, ℕ, suc, ◌+◌, ◌-◌, ◌==◌, ⊤, Bool, true, false, not, if◌then◌else◌, nat_le, nat_lt, nat_eq, List, [], ◌∷◌, ◌++◌, length, min, slice_index_or, Option, Some, None}
use Rattle.ucm_base.specs.Limits.{block_limit, attempt_limit}
use Rattle.ucm_base.specs.declared.ids.CallNo.{CallNo}
use Rattle.pm_types.specs.NodeState.{is_working}
use Rattle.pm_types.specs.declared.replies.Reply.{Reply}
use Rattle.pm_types.specs.declared.replies.Reply.TheVariants.{Done, Started, Synced, Refused}
use Rattle.pm_types.specs.declared.replies.SessionMark.{SessionMark}
use Rattle.pm_types.specs.declared.replies.Synced.{Synced as Shown}
use Rattle.pm_types.specs.declared.replies.Worked.{Worked}
use Rattle.pm_types.specs.declared.status.Status.{Status}
use Rattle.pm_types.specs.declared.status.Status.TheVariants.{Ready, Activated, RolledBack}
use Rattle.sub_core.specs.declared.answers.Finding.{Finding}
use Rattle.sub_core.specs.declared.answers.Got.{Got}
use Rattle.sub_core.specs.declared.answers.PackageSize.{PackageSize}
use Rattle.sub_core.specs.declared.answers.Rises.{Rises}
use Rattle.sub_core.specs.declared.answers.Round.{Round}
use Rattle.sub_core.specs.declared.answers.SendStep.{SendStep}
use Rattle.sub_core.specs.declared.answers.Todo.{Todo}
use Rattle.sub_core.specs.declared.progress.EndProgress.{EndProgress}
use Rattle.sub_core.specs.declared.progress.Progress.{Progress}
use Rattle.sub_core.specs.declared.progress.Wish.{Wish}
use Rattle.sub_core.specs.Failures.{faults_in, last_count, losses_in}
use Rattle.sub_core.specs.States.{DriverState, size_at, number_limit}

-- a driver that has asked for nothing yet
abbrev pub fresh : ℕ → ℕ → ℕ → List PackageSize → DriverState
fresh epoch first campaign steps = record {
  epoch = epoch;
  campaign = campaign;
  steps = steps;
  ids = [];
  number = first;
  is_open = false;
  misses = [];
  round = None;
  progress = Progress.Sync;
}

-- the call that comes next in the rounds
abbrev pub round_step : DriverState → Progress → SendStep
round_step d Progress.Sync = SendStep.Sync
round_step d Progress.Transfer = SendStep.Start (size_at d.steps (length d.ids)).index
round_step d (Progress.Data id counter left) =
    if left == 0 then SendStep.Exit id else SendStep.Data (size_at d.steps (length d.ids)).index id counter
round_step d (Progress.Process taken settled) =
    if nat_lt taken (length d.ids)
    then SendStep.Process (slice_index_or d.ids taken 0) d.campaign
    else SendStep.Activate
round_step d _ = SendStep.Activate

-- whether each call of this round, or before the first round that of Sync, is answered
abbrev pub is_over : Option Round → List ℕ → Progress → Bool
is_over round ids Progress.Sync = false
is_over None ids _ = true
is_over (Some Round.Sync) ids _ = true
is_over (Some Round.Transfer) ids (Progress.Process taken settled) = true
is_over (Some Round.Process) ids (Progress.Process taken settled) = nat_le (length ids) taken
is_over round ids _ = false

-- the next call, or nothing where the round is over
abbrev pub call_wish : DriverState → Progress → Wish
call_wish d p = if is_over d.round d.ids p then Wish.Rest Finding.RoundDone else Wish.Send (round_step d p)

abbrev pub end_wish : EndProgress → Wish
end_wish (EndProgress.Call step) = Wish.Send step
end_wish EndProgress.Units = Wish.Unit
end_wish (EndProgress.Delete listed place) = Wish.Send (SendStep.Delete (slice_index_or listed place 0))
end_wish (EndProgress.Rest call_no) = Wish.Rest (Finding.Ended call_no)

-- what is asked for, however often it was missed
abbrev pub wish_at : DriverState → Progress → Wish
wish_at d (Progress.Voted finding) = Wish.Rest finding
wish_at d Progress.Activating = Wish.Unit
wish_at d (Progress.Process taken false) = Wish.Unit
wish_at d (Progress.Ending commit at) = end_wish at
wish_at d p = call_wish d p

abbrev pub wish : DriverState → Wish
wish d = wish_at d d.progress

-- the sums of the rises; a sum above the last value is that value
abbrev pub unreached : List Rises → Finding
unreached misses =
    Finding.Unreached (min last_count (losses_in misses)) (min last_count (faults_in misses))

abbrev pub next_no : DriverState → CallNo
next_no d = record { epoch = d.epoch; number = d.number }

-- eight attempts in a row failed
abbrev pub is_missed : DriverState → Bool
is_missed d = nat_le attempt_limit (length d.misses)

abbrev pub todo_for : DriverState → Wish → Todo
todo_for d (Wish.Rest finding) = Todo.Rest finding
todo_for d (Wish.Send step) =
    if is_missed d then Todo.Rest (unreached d.misses) else Todo.Send (next_no d) step
todo_for d Wish.Unit = if is_missed d then Todo.Rest (unreached d.misses) else Todo.Unit

-- what is asked for
abbrev pub todo : DriverState → Todo
todo d = todo_for d (wish d)

abbrev pub is_numbered : Todo → Bool
is_numbered (Todo.Send call_no step) = nat_lt call_no.number number_limit
is_numbered _ = true

-- a number is left for what is asked
abbrev pub has_number : DriverState → Bool
has_number d = is_numbered (todo d)

-- whether the reply is of a kind that answers this call
abbrev pub is_answer : SendStep → Reply → Bool
is_answer SendStep.Sync (Synced shown) = true
is_answer SendStep.Sync _ = false
is_answer (SendStep.Start p) (Started id) = true
is_answer (SendStep.Start p) (Refused why) = true
is_answer (SendStep.Start p) _ = false
is_answer _ Done = true
is_answer _ (Refused why) = true
is_answer _ _ = false

-- the next transfer, or the first package to be processed
abbrev pub next_transfer : DriverState → Progress
next_transfer d = if nat_lt (suc (length d.ids)) (length d.steps) then Progress.Transfer else Progress.Process 0 true

-- what the reply to its call makes of the rounds
abbrev pub round_after : DriverState → Progress → Reply → Progress
round_after d p (Refused why) = Progress.Voted (Finding.Refused (next_no d) why)
round_after d Progress.Sync (Synced shown) = Progress.Transfer
round_after d Progress.Transfer (Started id) = Progress.Data id 1 (size_at d.steps (length d.ids)).length
round_after d (Progress.Data id counter left) Done =
    if left == 0 then next_transfer d else Progress.Data id (counter + 1) (left - block_limit)
round_after d (Progress.Process taken settled) Done =
    if nat_lt taken (length d.ids) then Progress.Process (suc taken) false else Progress.Activating
round_after d p _ = p

-- the transfer that is whole by this reply, the Done of its exit
abbrev pub whole_by : Progress → Reply → Option ℕ
whole_by (Progress.Data id counter left) Done = if left == 0 then Some id else None
whole_by p reply = None

abbrev pub with_whole : List ℕ → Option ℕ → List ℕ
with_whole ids None = ids
with_whole ids (Some id) = ids ++ id ∷ []

-- the call that the decision has for a status, or a Sync
abbrev pub end_step : Bool → Status → SendStep
end_step true Activated = SendStep.Finish
end_step false Activated = SendStep.Rollback
end_step false RolledBack = SendStep.Finish
end_step false Ready = SendStep.Revert
end_step commit status = SendStep.Sync

abbrev pub at_status : Bool → Status → EndProgress
at_status commit status = if is_working status then EndProgress.Units else EndProgress.Call (end_step commit status)

-- without a session of the master its transfers are deleted, and where there are none the end is there
abbrev pub at_free : CallNo → List ℕ → EndProgress
at_free call_no [] = EndProgress.Rest call_no
at_free call_no (id ∷ ids) = EndProgress.Delete (id ∷ ids) 0

abbrev pub at_session : Bool → CallNo → Option SessionMark → List ℕ → EndProgress
at_session commit call_no None ids = at_free call_no ids
at_session commit call_no (Some mark) ids =
    if nat_eq mark.owner 0 then at_status commit mark.status else at_free call_no ids

-- where a Sync leads to
abbrev pub at_shown : Bool → CallNo → Shown → EndProgress
at_shown commit call_no shown = at_session commit call_no shown.session shown.transfers

abbrev pub after_delete : List ℕ → ℕ → EndProgress
after_delete listed place =
    if nat_lt (suc place) (length listed) then EndProgress.Delete listed (suc place) else EndProgress.Call SendStep.Sync

-- what the reply to its call makes of the end phase; a refusal leads to the next Sync
abbrev pub end_after : Bool → CallNo → EndProgress → Reply → EndProgress
end_after commit call_no at (Refused why) = EndProgress.Call SendStep.Sync
end_after commit call_no at (Synced shown) = at_shown commit call_no shown
end_after commit call_no (EndProgress.Delete listed place) Done = after_delete listed place
end_after commit call_no at Done = EndProgress.Units
end_after commit call_no at (Started id) = at

abbrev pub progress_after : DriverState → Progress → Reply → Progress
progress_after d (Progress.Ending commit at) reply = Progress.Ending commit (end_after commit (next_no d) at reply)
progress_after d p reply = round_after d p reply

-- a reply to its call
abbrev pub replied : Reply → DriverState → DriverState
replied reply d = record d {
  ids = with_whole d.ids (whole_by d.progress reply);
  number = d.number + 1;
  is_open = false;
  misses = [];
  progress = progress_after d d.progress reply;
}

-- what a status makes of where it is
abbrev pub settled_after : Progress → Status → Progress
settled_after Progress.Activating Activated = Progress.Voted Finding.Yes
settled_after Progress.Activating RolledBack = Progress.Voted Finding.RolledBack
settled_after (Progress.Process taken settled) status = Progress.Process taken (not (is_working status))
settled_after (Progress.Ending commit at) status = Progress.Ending commit (at_status commit status)
settled_after p status = p

abbrev pub status_of : Worked → Status
status_of (Worked.Unit passed after) = after
status_of (Worked.Nothing status) = status

abbrev pub worked : Status → DriverState → DriverState
worked status d = record d { misses = []; progress = settled_after d.progress status }

abbrev pub missed : ℕ → ℕ → DriverState → DriverState
missed losses faults d = record d { misses = d.misses ++ record { losses = losses; faults = faults } ∷ [] }

-- the message was sent, and isn't answered
abbrev pub opened : DriverState → DriverState
opened d = record d { is_open = true }

-- an answer to a call; one of a kind that the call never has leaves what is asked
abbrev pub after_send : SendStep → Got → DriverState → DriverState
after_send step (Got.Replied reply) d = if is_answer step reply then replied reply d else opened d
after_send step (Got.UnitOf unit) d = opened d
after_send step (Got.Miss losses faults) d = missed losses faults (opened d)

-- an answer to a unit
abbrev pub after_unit : Got → DriverState → DriverState
after_unit (Got.Replied reply) d = d
after_unit (Got.UnitOf unit) d = worked (status_of unit) d
after_unit (Got.Miss losses faults) d = missed losses faults d

abbrev pub after_todo : Todo → Got → DriverState → DriverState
after_todo (Todo.Send call_no step) got d = after_send step got d
after_todo Todo.Unit got d = after_unit got d
after_todo (Todo.Rest finding) got d = d

-- what an answer makes of a driver; where it asks for nothing, nothing
abbrev pub step : Got → DriverState → DriverState
step got d = if has_number d then after_todo (todo d) got d else d

abbrev pub unanswered_at : Todo → DriverState → DriverState
unanswered_at (Todo.Send call_no step) d = opened d
unanswered_at _ d = d

-- memory was wanting for an answer: a call that was sent keeps its number
abbrev pub unanswered : DriverState → DriverState
unanswered d = if has_number d then unanswered_at (todo d) d else d

abbrev pub begun_at : Round → Progress → Progress
begun_at (Round.End commit) p = Progress.Ending commit (EndProgress.Call SendStep.Sync)
begun_at _ p = p

-- a round begins; the number of a message that stayed open isn't used again
abbrev pub begun : Round → DriverState → DriverState
begun round d = record d {
  number = if d.is_open then d.number + 1 else d.number;
  is_open = false;
  misses = [];
  round = Some round;
  progress = begun_at round d.progress;
}

abbrev pub IsEnding : Progress → Type 0
IsEnding (Progress.Ending commit at) = ⊤
IsEnding _ = ⊥

-- the round isn't that of the end
abbrev pub IsBeforeEnd : Option Round → Type 0
IsBeforeEnd (Some (Round.End commit)) = ⊥
IsBeforeEnd _ = ⊤

-- the decision that was given, if any
abbrev pub decision_given : Option Round → Option Bool
decision_given (Some (Round.End commit)) = Some commit
decision_given _ = None

-- the round before this one is done
pub record IsAfter (before : Round) (d : DriverState) : Type 0 where
  pub round : d.round ≡ Some before
  pub done : todo d ≡ Todo.Rest Finding.RoundDone

-- the rounds come in order, each after the one before is done, and the end comes once, and last
abbrev pub CanBegin : Round → DriverState → Type 0
CanBegin Round.Sync d = d.round ≡ None
CanBegin Round.Transfer d = IsAfter Round.Sync d
CanBegin Round.Process d = IsAfter Round.Transfer d
CanBegin Round.Activate d = IsAfter Round.Process d
CanBegin (Round.End commit) d = IsBeforeEnd d.round
