-- What one attempt at a call or a unit gave.
use Rattle.std.specs.Prelude.{◌≡◌, ℕ, List, Option, Some, None}
use Rattle.ucm_base.specs.declared.ids.CallNo.{CallNo}
use Rattle.pm_types.specs.declared.calls.Call.{Call}
use Rattle.sub_core.specs.declared.answers.Got.{Got}
use Rattle.sub_core.specs.declared.answers.SendStep.{SendStep}
use Rattle.sub_core.specs.declared.answers.Todo.{Todo}
use Rattle.sub_core.specs.declared.subordinate.Sent.{Sent}
use Rattle.sub_core.specs.declared.subordinate.UnitSent.{UnitSent}
use Rattle.sub_core.specs.Calls.{call_of}
use Rattle.sub_core.specs.Numbers.{IsNotBelow}
use Rattle.sub_core.specs.Subordinates.{Counted, IsCounted, IsCountedUnit, IsNoFewer}

-- what the driver is answered; nothing where memory was wanting
abbrev pub got_of : Sent → Option Got
got_of (Sent.Answered reply) = Some (Got.Replied reply)
got_of (Sent.Lost faults) = Some (Got.Miss 1 faults)
got_of (Sent.NoReply faults) = Some (Got.Miss 0 faults)
got_of Sent.OutOfMemory = None

abbrev pub got_unit : UnitSent → Option Got
got_unit (UnitSent.Worked unit) = Some (Got.UnitOf unit)
got_unit (UnitSent.NoReply faults) = Some (Got.Miss 0 faults)
got_unit UnitSent.OutOfMemory = None

module _ {U : Type 0} (last : U → Option CallNo) (counted : U → Counted) (sends : U → CallNo → Call → Sent → U → Type 0)
    (works : U → UnitSent → U → Type 0) where
  -- the call of a step was sent, and this is what the driver is answered
  pub record IsSent (packages : List (List ℕ)) (at : CallNo) (step : SendStep) (got : Option Got) (s t : U) : Type 0
    where
      pub answer : Sent
      pub above : IsNotBelow (last s) at
      pub sent : sends s at (call_of packages step) answer t
      pub newest : last t ≡ Some at
      pub is : got_of answer ≡ got
      pub counts : IsNoFewer (counted s) (counted t)
      pub rises : IsCounted answer (counted s) (counted t)

  -- a unit was asked for
  pub record IsWorked (got : Option Got) (s t : U) : Type 0 where
    pub answer : UnitSent
    pub worked : works s answer t
    pub newest : last t ≡ last s
    pub is : got_unit answer ≡ got
    pub counts : IsNoFewer (counted s) (counted t)
    pub rises : IsCountedUnit answer (counted s) (counted t)

  -- what the driver asked for was tried, and this is what it gave, if anything
  abbrev pub IsTried : List (List ℕ) → Todo → Option Got → U → U → Type 0
  IsTried packages (Todo.Send at step) got s t = IsSent packages at step got s t
  IsTried packages Todo.Unit got s t = IsWorked got s t
  IsTried packages (Todo.Rest finding) got s t = ⊥
