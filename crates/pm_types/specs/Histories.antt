-- Histories: lists of entries that a node can have made.
use Rattle.std.specs.Prelude.{◌≡◌, ◌<◌, ℕ, Bool, true, not, ◌||◌, IsTrue, List, [], ◌∷◌, ⊤, unwrap_or, replicate, slice_get, option_and_then, option_map, Option, Some, None, Ok}
use Rattle.std.specs.Option.{option_map_or}
use Rattle.ucm_base.specs.Limits.{client_limit}
use Rattle.ucm_base.specs.Parts.{Bytes}
use Rattle.ucm_base.specs.Names.{has_name}
use Rattle.pm_types.specs.declared.calls.Call.{Call}
use Rattle.pm_types.specs.declared.calls.Call.TheVariants.{TransferExit}
use Rattle.pm_types.specs.declared.history.Entry.{Entry}
use Rattle.pm_types.specs.declared.history.Entry.TheVariants.{Numbered, Unit as UnitDone}
use Rattle.pm_types.specs.declared.history.Happened.TheVariants.{Unit as UnitAfter}
use Rattle.pm_types.specs.declared.replies.Reached.TheVariants.{Done as Answered}
use Rattle.pm_types.specs.declared.status.Status.TheVariants.{Idle, Verifying}
use Rattle.pm_types.specs.declared.clusters.Cluster.{Cluster}
use Rattle.pm_types.specs.NodeState.{NodeState, has_status}
use Rattle.pm_types.specs.Clusters.{cluster_of}
use Rattle.pm_types.specs.Steps.{step, after_call, with_entry}
use Rattle.pm_types.specs.Transfers.{Verdict, transfer_of}
use Rattle.pm_types.specs.Work.{unit}

-- a node with these clusters that has done nothing yet
abbrev pub formatted : List (Cluster Bytes) → NodeState
formatted clusters = record {
  status = Idle;
  next_id = 1;
  running = clusters;
  transfers = [];
  session = None;
  last = replicate client_limit None;
  ended = replicate client_limit None;
  entries = 0;
  lines = [];
}

-- how bytes are read as a package
abbrev pub Reading : Type 0
Reading = List ℕ → Verdict

-- the verdict on the bytes of the transfer that an exit names
abbrev pub verdict_for : Reading → NodeState → ℕ → Call → Verdict
verdict_for read s client (TransferExit id) = read (option_map_or (λ t. t.bytes) (transfer_of s client id) [])
verdict_for read s client _ = Ok []

-- the state after a unit, with its line
abbrev pub worked : NodeState → Bool → Option NodeState
worked s passed = option_map (λ t. with_entry (UnitAfter t.status) t) (unit s passed)

-- the state after an entry
abbrev pub after_entry : Reading → NodeState → Entry → NodeState
after_entry read s (Numbered client call_no call reply) =
    after_call s client call_no call (verdict_for read s client call) reply
after_entry read s (UnitDone passed after) = unwrap_or (worked s passed) s

-- the state after a history
abbrev pub state_after : Reading → NodeState → List Entry → NodeState
state_after read s [] = s
state_after read s (entry ∷ entries) = state_after read (after_entry read s entry) entries

-- the entry is what the node did: a call that it executed with this reply, or a unit that led to this status
abbrev pub IsNext : Reading → NodeState → Entry → Type 0
IsNext read s (Numbered client call_no call reply) =
    (client < client_limit) × ((step s client call_no call (verdict_for read s client call)).1 ≡ Answered reply)
IsNext read s (UnitDone passed after) =
    (option_map (λ t. t.status) (unit s passed) ≡ Some after) × IsTrue (passed || has_status Verifying s)

-- each entry is what the node did after those before it
abbrev pub IsLegal : Reading → NodeState → List Entry → Type 0
IsLegal read s [] = ⊤
IsLegal read s (entry ∷ entries) = IsNext read s entry × IsLegal read (after_entry read s entry) entries

-- whether the change that is verified next is of a cluster that doesn't fail
abbrev pub passes : List (List ℕ) → NodeState → Bool
passes fails s =
    option_map_or (λ change. not (has_name fails (cluster_of change.part)))
    (option_and_then (λ x. slice_get x.changes x.verified) s.session) true

-- the verdict of the next unit: true outside Verifying
abbrev pub unit_passes : List (List ℕ) → NodeState → Bool
unit_passes fails s = not (has_status Verifying s) || passes fails s

abbrev pub IsTrueTo : List (List ℕ) → Reading → NodeState → List Entry → Type 0
IsTrueTo fails read s [] = ⊤
IsTrueTo fails read s (UnitDone passed after ∷ entries) =
    (passed ≡ unit_passes fails s) × IsTrueTo fails read (after_entry read s (UnitDone passed after)) entries
IsTrueTo fails read s (Numbered client call_no call reply ∷ entries) =
    IsTrueTo fails read (after_entry read s (Numbered client call_no call reply)) entries
