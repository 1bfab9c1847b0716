-- Which answers count, and when a driver has come to its end.
use Rattle.std.specs.Prelude.{◌≡◌, ◌⊎◌, ◌↔◌, ℕ, ◌+◌, ⊤, Bool, true, false, List, [], ◌∷◌, length, Option, Some}
use Rattle.ucm_base.specs.declared.ids.CallNo.{CallNo}
use Rattle.pm_types.specs.NodeState.{NodeState}
use Rattle.pm_types.specs.Steps.{acceptance}
use Rattle.pm_types.specs.declared.replies.Reply.{Reply}
use Rattle.pm_types.specs.declared.replies.Reply.TheVariants.{Done, Started, Synced}
use Rattle.pm_types.specs.declared.replies.Worked.{Worked}
use Rattle.world.specs.Messages.{Message, Told, is_refusal, is_sync, is_told}
use Rattle.world.specs.World.{shown_by}
use Rattle.sub_core.specs.declared.answers.Finding.{Finding}
use Rattle.sub_core.specs.declared.answers.Got.{Got}
use Rattle.sub_core.specs.declared.answers.Round.{Round}
use Rattle.sub_core.specs.declared.answers.SendStep.{SendStep}
use Rattle.sub_core.specs.declared.answers.Todo.{Todo}
use Rattle.sub_core.specs.Calls.{call_of}
use Rattle.sub_core.specs.Driving.{has_number, is_answer, step, todo}
use Rattle.sub_core.specs.Given.{AreGiven, Given, IsTask, Task, after, sent_of, status_got, told_of}
use Rattle.sub_core.specs.States.{DriverState, number_limit}

-- two replies of accepted calls are of one kind
abbrev pub same_kind : Reply → Reply → Bool
same_kind Done Done = true
same_kind (Started id) (Started other) = true
same_kind (Synced shown) (Synced other) = true
same_kind _ _ = false

-- a reply counts that is of the kind with which a node accepts the call, or refuses it; a Sync is never refused
abbrev pub AnswersAreOfKind : Type 0
AnswersAreOfKind =
    (lent : List (List ℕ)) (asked : SendStep) (reply : Reply) (n : NodeState) (client : ℕ)
    → (is_answer asked reply ≡ true) ↔ ((same_kind (acceptance n client (call_of lent asked)) reply ≡ true)
    ⊎ ((is_refusal reply ≡ true) × (is_sync (call_of lent asked) ≡ false)))

-- what a unit gave tells the status that it shows: that of the node after it, or where there was none to do of the node
abbrev pub UnitsTell : Type 0
UnitsTell =
    (n after_unit : NodeState) (passed : Bool)
    → (status_got (Got.UnitOf (Worked.Unit passed after_unit.status)) ≡ Some (shown_by n (Some after_unit)))
    × (status_got (Got.UnitOf (Worked.Nothing n.status)) ≡ Some n.status)

-- a driver that rests stays as it is
abbrev pub RestsStay : Type 0
RestsStay = (d : DriverState) (finding : Finding) (got : Got) → todo d ≡ Todo.Rest finding → step got d ≡ d

-- the newest message is answered, or was sent in the rounds, and the end phase goes on
abbrev pub IsClosed : Option Round → List Told → List Message → Type 0
IsClosed round told [] = ⊤
IsClosed round told (m ∷ sent) =
    (is_told told m.at ≡ true) ⊎ ((m.decided ≡ false) × ((commit : Bool) × (round ≡ Some (Round.End commit))))

-- a call is asked for, all numbers are used up, and none belongs to an open message
pub record IsOut (lent : List (List ℕ)) (task : Task) (gs : List Given) : Type 0 where
  pub call_no : CallNo
  pub asked : SendStep
  pub asks : todo (after task gs) ≡ Todo.Send call_no asked
  pub all : task.first + length (sent_of lent task gs) ≡ number_limit
  pub closed : IsClosed (after task gs).round (told_of lent task gs) (sent_of lent task gs)

-- a number is wanting only there
abbrev pub NumbersLast : Type 0
NumbersLast =
    (lent : List (List ℕ)) (task : Task) (gs : List Given) → IsTask lent task → AreGiven task gs
    → has_number (after task gs) ≡ false → IsOut lent task gs
