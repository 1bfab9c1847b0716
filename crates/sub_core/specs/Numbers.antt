-- The numbers under which a driver sends.
use Rattle.std.specs.Prelude.{◌≡◌, ◌⊎◌, ◌<◌, ◌≤◌, ⊤, Option, Some, None}
use Rattle.ucm_base.specs.declared.ids.CallNo.{CallNo}
use Rattle.sub_core.specs.declared.answers.Todo.{Todo}
use Rattle.sub_core.specs.States.{DriverState}

-- a send is at this number
abbrev pub IsAt : CallNo → Todo → Type 0
IsAt next (Todo.Send call_no step) = call_no ≡ next
IsAt next _ = ⊤

-- a number that isn't below the last one
abbrev pub IsNotBelow : Option CallNo → CallNo → Type 0
IsNotBelow None next = ⊤
IsNotBelow (Some last) next =
    (last.epoch < next.epoch) ⊎ ((last.epoch ≡ next.epoch) × (last.number ≤ next.number))

-- in the same epoch, for the same packages, the number hasn't fallen
pub record IsLater (before now : DriverState) : Type 0 where
  pub epoch : now.epoch ≡ before.epoch
  pub campaign : now.campaign ≡ before.campaign
  pub steps : now.steps ≡ before.steps
  pub number : before.number ≤ now.number
