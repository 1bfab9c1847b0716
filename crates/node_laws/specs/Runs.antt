-- The history that calls and units of work make.
use Rattle.std.specs.Prelude.{◌≡◌, ℕ, ◌<◌, Bool, ⊤, List, [], ◌∷◌, ◌++◌, Option, Some, None, unwrap_or}
use Rattle.std.specs.List.{AllByRecursion}
use Rattle.ucm_base.specs.declared.ids.CallNo.{CallNo}
use Rattle.ucm_base.specs.Limits.{client_limit}
use Rattle.pm_types.specs.declared.calls.Call.{Call}
use Rattle.pm_types.specs.declared.history.Entry.{Entry}
use Rattle.pm_types.specs.declared.history.Entry.TheVariants.{Numbered, Unit as UnitDone}
use Rattle.pm_types.specs.declared.replies.Reached.{Reached}
use Rattle.pm_types.specs.declared.replies.Reached.TheVariants.{Done as Answered}
use Rattle.pm_types.specs.NodeState.{NodeState}
use Rattle.pm_types.specs.Steps.{step}
use Rattle.pm_types.specs.Work.{unit}
use Rattle.pm_types.specs.Histories.{Reading, IsLegal, IsTrueTo, state_after, verdict_for, unit_passes, worked}

-- what a node is asked for: a client's call under a number, or a unit of work
pub data Asked : Type 0 where
  Calls : (client : ℕ) (at : CallNo) (call : Call) → Asked
  Works : Asked

-- the state after a call, and what it gave
abbrev pub called : Reading → NodeState → ℕ → CallNo → Call → NodeState × Reached
called read s client at call = step s client at call (verdict_for read s client call)

-- the entry of a call that was executed; a repeat and a stale call have none
abbrev pub call_entry : ℕ → CallNo → Call → Reached → List Entry
call_entry client at call (Answered reply) = Numbered client at call reply ∷ []
call_entry client at call _ = []

-- the entry of a unit, where there was one to do
abbrev pub unit_entry : Bool → Option NodeState → List Entry
unit_entry passed None = []
unit_entry passed (Some after) = UnitDone passed after.status ∷ []

-- the entries that calls and units make one after another, where these clusters fail
abbrev pub entries_of : List (List ℕ) → Reading → NodeState → List Asked → List Entry
entries_of fails read s [] = []
entries_of fails read s (Calls client at call ∷ asked) =
    call_entry client at call (called read s client at call).1
    ++ entries_of fails read (called read s client at call).0 asked
entries_of fails read s (Works ∷ asked) =
    unit_entry (unit_passes fails s) (unit s (unit_passes fails s))
    ++ entries_of fails read (unwrap_or (worked s (unit_passes fails s)) s) asked

-- the state that they lead to
abbrev pub led_to : List (List ℕ) → Reading → NodeState → List Asked → NodeState
led_to fails read s [] = s
led_to fails read s (Calls client at call ∷ asked) = led_to fails read (called read s client at call).0 asked
led_to fails read s (Works ∷ asked) = led_to fails read (unwrap_or (worked s (unit_passes fails s)) s) asked

abbrev pub IsOfClient : Asked → Type 0
IsOfClient (Calls client at call) = client < client_limit
IsOfClient Works = ⊤

-- whatever is called and worked, the history is legal, true to the names that fail, and leads to the same state
abbrev pub MakesLegal : Reading → Type 0
MakesLegal read =
    (fails : List (List ℕ)) (s : NodeState) (asked : List Asked) → AllByRecursion IsOfClient asked
    → IsLegal read s (entries_of fails read s asked) × IsTrueTo fails read s (entries_of fails read s asked)
    × (state_after read s (entries_of fails read s asked) ≡ led_to fails read s asked)
