-- Messages to a node, what the master was told of it, and which call and reply is which.
use Rattle.std.specs.Ordering.{is_eq}
use Rattle.pm_types.specs.Steps.{call_no_cmp}
use Rattle.pm_types.specs.NodeState.{status_code}
use Rattle.pm_types.specs.declared.calls.Call.TheVariants.{Sync, ProcessSwPackage, Activate}
use Rattle.pm_types.specs.declared.calls.Call.{Call}
use Rattle.pm_types.specs.declared.replies.Reached.TheVariants.{Stale, Again, Done as Fresh}
use Rattle.pm_types.specs.declared.replies.Reached.{Reached}
use Rattle.pm_types.specs.declared.replies.Reply.TheVariants.{Done, Refused}
use Rattle.pm_types.specs.declared.replies.Reply.{Reply}
use Rattle.pm_types.specs.declared.status.Status.{Status}
use Rattle.std.specs.Prelude.{ℕ, List, [], ◌∷◌, Option, Some, None, Bool, true, false, if◌then◌else◌, nat_eq, is_some}
use Rattle.ucm_base.specs.declared.ids.CallNo.{CallNo}

abbrev pub is_status : Status → Status → Bool
is_status a b = nat_eq (status_code a) (status_code b)

abbrev pub is_refusal : Reply → Bool
is_refusal (Refused _) = true
is_refusal _ = false

-- a message to a node, with what the master's list was when it was sent: the campaign, and whether that was decided
pub record Message : Type 0 where
  pub at : CallNo
  pub call : Call
  pub campaign : ℕ
  pub decided : Bool

-- what the master got from a node
pub data Told : Type 0 where
  Answered : (message : Message) (reply : Reply) → Told
  Showed : (status : Status) → Told

-- the reply that was told to this message
abbrev pub told_reply : List Told → CallNo → Option Reply
told_reply [] at = None
told_reply (Answered m r ∷ ts) at = if is_eq (call_no_cmp m.at at) then Some r else told_reply ts at
told_reply (Showed _ ∷ ts) at = told_reply ts at

abbrev pub is_told : List Told → CallNo → Bool
is_told ts at = is_some (told_reply ts at)

abbrev pub answer_of : Message → Reached → List Told → List Told
answer_of m (Stale _) ts = ts
answer_of m (Again r) ts = Answered m r ∷ ts
answer_of m (Fresh r) ts = Answered m r ∷ ts

abbrev pub is_process : Call → Bool
is_process (ProcessSwPackage _ _) = true
is_process _ = false

abbrev pub is_activate : Call → Bool
is_activate Activate = true
is_activate _ = false

abbrev pub is_sync : Call → Bool
is_sync Sync = true
is_sync _ = false

abbrev pub is_done : Reply → Bool
is_done Done = true
is_done _ = false
