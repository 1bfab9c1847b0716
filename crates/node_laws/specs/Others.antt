-- What other clients' calls and units leave of a session.
use Rattle.std.specs.Prelude.{◌≡◌, ◌≢◌, ℕ, ⊤, Bool, true, false, List, Some, None}
use Rattle.std.specs.List.{AllByRecursion}
use Rattle.ucm_base.specs.declared.ids.CallNo.{CallNo}
use Rattle.pm_types.specs.declared.calls.Call.{Call}
use Rattle.pm_types.specs.declared.history.Entry.{Entry}
use Rattle.pm_types.specs.declared.history.Entry.TheVariants.{Numbered, Unit as UnitDone}
use Rattle.pm_types.specs.declared.status.Status.{Status}
use Rattle.pm_types.specs.declared.status.Status.TheVariants.{Ready, Activated, RolledBack}
use Rattle.pm_types.specs.NodeState.{NodeState, Session}
use Rattle.pm_types.specs.Work.{unit}
use Rattle.pm_types.specs.Histories.{Reading, IsLegal, state_after}
use Rattle.node_laws.specs.Runs.{called}

-- in these statuses a session waits for its owner
abbrev pub awaits_owner : Status → Bool
awaits_owner Ready = true
awaits_owner Activated = true
awaits_owner RolledBack = true
awaits_owner _ = false

-- the session and its status are those of before, so its owner and its tag are, too
abbrev pub HasStill : NodeState → NodeState → Type 0
HasStill s t = (t.session ≡ s.session) × (t.status ≡ s.status)

-- the entry is of at call of the owner
abbrev pub IsNotBy : ℕ → Entry → Type 0
IsNotBy owner (Numbered client at call reply) = client ≢ owner
IsNotBy owner (UnitDone passed after) = ⊤

-- another client's call leaves a session and its status; no unit is done in a status that awaits the owner;
-- so a history without the owner's calls leaves them there
pub record LeavesSessions (read : Reading) : Type 0 where
  pub call : (s : NodeState) (x : Session) (client : ℕ) (at : CallNo) (call : Call)
      → s.session ≡ Some x → client ≢ x.owner → HasStill s (called read s client at call).0
  pub unit : (s : NodeState) (passed : Bool) → awaits_owner s.status ≡ true → unit s passed ≡ None
  pub history : (s : NodeState) (x : Session) (entries : List Entry)
      → s.session ≡ Some x → awaits_owner s.status ≡ true → IsLegal read s entries
      → AllByRecursion (IsNotBy x.owner) entries → HasStill s (state_after read s entries)
