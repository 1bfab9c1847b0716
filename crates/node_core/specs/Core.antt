-- A node in memory: its stored state, where its bytes lie, and what is ready for the next call.
use Rattle.std.specs.Prelude.{◌≡◌, ◌+◌, ℕ, ⊤, [], length, slice_range, slice_index_or, Option, Some, None}
use Rattle.std.specs.List.{AllByRecursion}
use Rattle.ucm_base.specs.declared.ids.CallNo.{CallNo}
use Rattle.ucm_base.specs.Parts.{Bytes}
use Rattle.pm_types.specs.declared.calls.Call.{Call}
use Rattle.pm_types.specs.declared.calls.Call.TheVariants.{TransferData, TransferExit, ProcessSwPackage, Activate}
use Rattle.pm_types.specs.declared.replies.Refusal.{Refusal}
use Rattle.pm_types.specs.declared.replies.Reached.{Reached}
use Rattle.pm_types.specs.declared.replies.Reached.TheVariants.{Done as Answered}
use Rattle.pm_types.specs.declared.replies.Reply.{Reply}
use Rattle.pm_types.specs.declared.replies.SessionMark.{SessionMark}
use Rattle.pm_types.specs.declared.status.Status.{Status}
use Rattle.pm_types.specs.declared.state.StoredTransfer.{StoredTransfer}
use Rattle.pm_types.specs.NodeState.{NodeState, SessionOf, of_client}
use Rattle.pm_types.specs.Histories.{verdict_for}
use Rattle.pm_types.specs.Refusals.{first_refusal}
use Rattle.pm_types.specs.Sessions.{activate_refusal, new_session, session_refusals}
use Rattle.pm_types.specs.Steps.{execute, refusal, repeat_of, reply_to, step}
use Rattle.pm_types.specs.Stored.{Areas, State, IsInOrder, meaning}
use Rattle.pm_types.specs.Transfers.{Keeping, Verdict, transfer_of, header_of, exit_refusals}
use Rattle.transfer_blocks.specs.Table.{good_parts, with_slots}
use Rattle.pm_types.specs.declared.state.Transfers.{Transfers as Table}
use Rattle.node_laws.specs.Fit.{IsFit}
use Rattle.node_core.specs.declared.prepared.Prepared.{Prepared}
use Rattle.node_core.specs.declared.prepared.Prepared.TheVariants.{Nothing}
use Rattle.node_core.specs.Packages.{package_reading}
use Rattle.node_core.specs.Places.{IsCopied}
use Rattle.node_core.specs.Prepared.{IsVerdictKept, session_kept, unmet_kept, verdict_in, verdict_kept}

-- a node's stored state, and what is ready for its next call or unit
pub record Readied : Type 0 where
  pub state : State
  pub prepared : Prepared

-- a node in memory
pub record Holding : Type 0 where
  pub areas : Areas
  pub state : State
  pub prepared : Prepared

-- what is stored and ready, over these areas
abbrev pub over : Areas → Readied → Holding
over areas r = record { areas = areas; state = r.state; prepared = r.prepared }

-- what is stored and ready of a node in memory
abbrev pub under : Holding → Readied
under v = record { state = v.state; prepared = v.prepared }

-- a node in memory with what keeps its areas
pub record Owning (S : Type 0) : Type 0 where
  pub staging : S
  pub held : Holding

-- the node itself
abbrev pub node_of : Holding → NodeState
node_of v = meaning package_reading v.areas v.state

-- the node is consistent, its stored state is in order, and the units done lie where they should
pub record IsSound (v : Holding) : Type 0 where
  pub fit : IsFit package_reading (node_of v)
  pub order : IsInOrder package_reading v.areas v.state
  pub copied : IsCopied package_reading v.areas v.state

-- what a call is judged by: the verdict on the bytes that it closes
abbrev pub verdict_on : Holding → ℕ → Call → Verdict
verdict_on v client call = verdict_for package_reading (node_of v) client call

abbrev pub refusal_by : Holding → ℕ → Call → Option Refusal
refusal_by v client call = refusal (node_of v) client call (verdict_on v client call)

abbrev pub reply_by : Holding → ℕ → Call → Reply
reply_by v client call = reply_to (node_of v) client call (verdict_on v client call)

abbrev pub step_by : Holding → ℕ → CallNo → Call → NodeState × Reached
step_by v client call_no call = step (node_of v) client call_no call (verdict_on v client call)

-- over areas a stored state stands for this node, and is in order
pub record StandsFor (areas : Areas) (s : State) (n : NodeState) : Type 0 where
  pub node : meaning package_reading areas s ≡ n
  pub order : IsInOrder package_reading areas s
  pub copied : IsCopied package_reading areas s

-- a node that begins with these areas and this state
abbrev pub holding : Areas → State → Holding
holding areas state = record { areas = areas; state = state; prepared = Nothing }

-- what Sync shows of a session
abbrev pub mark_of : {C : Type 0} → Status → SessionOf C → SessionMark
mark_of status x = record { owner = x.owner; tag = x.tag; status = status }

-- the node's table of transfers
abbrev pub table_of : State → Table
table_of s = record { next_id = s.next_id; list = s.transfers }

abbrev pub with_table : Table → State → State
with_table table s = record s { next_id = table.next_id; transfers = table.list }

-- a block lies behind the bytes that came
abbrev pub IsBehind : Areas → Bytes → StoredTransfer → Type 0
IsBehind areas block t =
    slice_range (slice_index_or areas.slots t.slot []) t.header.received (t.header.received + length block) ≡ block

-- all that executing the call needs is there, where the table accepts it
abbrev pub IsReady : Holding → ℕ → Call → Type 0
IsReady v client (TransferData id counter block) =
    refusal_by v client (TransferData id counter block) ≡ None
    → AllByRecursion (λ t. t.header.id ≡ id → IsBehind v.areas block t) v.state.transfers
IsReady v client (TransferExit id) =
    first_refusal (exit_refusals (header_of (transfer_of (node_of v) client id))) ≡ None
    → IsVerdictKept (verdict_kept v.prepared) (verdict_on v client (TransferExit id))
IsReady v client (ProcessSwPackage id tag) =
    refusal_by v client (ProcessSwPackage id tag) ≡ None
    → v.state.session ≡ None → session_kept v.prepared ≡ Some (new_session v.state client tag)
IsReady v client Activate =
    first_refusal (session_refusals (node_of v) client Activate) ≡ None
    → unmet_kept v.prepared ≡ Some (activate_refusal (node_of v))
IsReady v client _ = ⊤

-- the same, where the call is newer than the client's last one
abbrev pub IsReserved : Holding → ℕ → CallNo → Call → Type 0
IsReserved v client call_no call = repeat_of call_no (of_client v.state.last client) ≡ None → IsReady v client call

-- how a call and a unit keep the transfers: a slot for one that begins, and the parts that the ready verdict names
abbrev pub kept_by : Readied → Keeping StoredTransfer
kept_by r = with_slots r.state.transfers (good_parts (verdict_in (verdict_kept r.prepared)))

-- the stored state after a call that gave this
abbrev pub state_after : Readied → ℕ → CallNo → Call → Reached → State
state_after r client call_no call (Answered reply) = execute (kept_by r) r.state client call_no call reply
state_after r client call_no call _ = r.state

-- over each areas over which the node is sound and all is ready for a newer call, this holds
abbrev pub AllReady : Readied → ℕ → Call → (Holding → Type 0) → Type 0
AllReady r client call P =
    (areas : Areas) → IsSound (over areas r) → IsReady (over areas r) client call → P (over areas r)

-- the same, where the call may be a repeat
abbrev pub AllReserved : Readied → ℕ → CallNo → Call → (Holding → Type 0) → Type 0
AllReserved r client call_no call P =
    (areas : Areas) → IsSound (over areas r) → IsReserved (over areas r) client call_no call → P (over areas r)

-- over some areas the node is sound, and all is ready for a newer call, which is so
abbrev pub SomeReady : Readied → ℕ → Call → (Holding → Type 0) → Type 0
SomeReady r client call P =
    (areas : Areas) × IsSound (over areas r) × IsReady (over areas r) client call × P (over areas r)

abbrev pub SomeAccepted : Readied → ℕ → Call → Type 0
SomeAccepted r client call = SomeReady r client call (λ v. refusal_by v client call ≡ None)

-- the same, where the call may be a repeat
abbrev pub SomeReserved : Readied → ℕ → CallNo → Call → Type 0
SomeReserved r client call_no call =
    (areas : Areas) × IsSound (over areas r) × IsReserved (over areas r) client call_no call

-- a call was executed: the answer and the node are those of the definition's step, and the node is sound
pub record IsExecuted (old : Holding) (client : ℕ) (call_no : CallNo) (call : Call) (given : Reached)
    (new : Holding) : Type 0 where
  pub reached : given ≡ (step_by old client call_no call).1
  pub node : node_of new ≡ (step_by old client call_no call).0
  pub sound : IsSound new

-- over each areas over which a state is sound, this holds of the node
abbrev pub AllSound : State → (NodeState → Type 0) → Type 0
AllSound s P = (areas : Areas) → IsSound (holding areas s) → P (meaning package_reading areas s)

-- over some areas a state is sound
abbrev pub SomeSound : State → Type 0
SomeSound s = (areas : Areas) × IsSound (holding areas s)
