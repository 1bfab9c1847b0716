-- What may be sent, by what the master was told.
use Rattle.std.specs.List.{list_any}
use Rattle.std.specs.Option.{option_or}
use Rattle.pm_types.specs.NodeState.{is_working}
use Rattle.campaign_core.specs.Campaign.{vote_of, end_of, is_marked}
use Rattle.campaign_core.specs.Nodes.{flag_of}
use Rattle.campaign_core.specs.declared.events.Decision.TheVariants.{Commit, Abort}
use Rattle.campaign_core.specs.declared.events.Decision.{Decision}
use Rattle.campaign_core.specs.declared.events.MasterEvent.TheVariants.{Start, Begin}
use Rattle.campaign_core.specs.declared.events.MasterEvent.{MasterEvent}
use Rattle.campaign_core.specs.declared.events.Phase.{Phase}
use Rattle.campaign_core.specs.declared.fold.Current.{Current}
use Rattle.pm_types.specs.declared.calls.Call.TheVariants.{Sync, TransferStart, TransferData, TransferExit, DeleteTransfer, ProcessSwPackage, Activate, Finish, Rollback, RevertProcessedSwPackages as Revert}
use Rattle.pm_types.specs.declared.calls.Call.{Call}
use Rattle.pm_types.specs.declared.replies.Reply.TheVariants.{Synced}
use Rattle.pm_types.specs.declared.replies.Reply.{Reply}
use Rattle.pm_types.specs.declared.replies.SessionMark.{SessionMark}
use Rattle.pm_types.specs.declared.replies.Synced.{Synced as Shown}
use Rattle.pm_types.specs.declared.status.Status.TheVariants.{Idle, Ready, Activated, RolledBack}
use Rattle.pm_types.specs.declared.status.Status.{Status}
use Rattle.std.specs.Prelude.{◌≡◌, ℕ, ◌+◌, List, [], ◌∷◌, ◌++◌, Option, Some, None, Bool, true, false, not, ◌&&◌, ◌||◌, if◌then◌else◌, nat_eq, is_some}
use Rattle.ucm_base.specs.declared.ids.CallNo.{CallNo}
use Rattle.world.specs.Messages.{is_status, is_refusal, Message, Told, told_reply, is_told, is_process, is_activate, is_sync, is_done, Answered, Showed}
use Rattle.world.specs.Rounds.{AtSync, call_at, stage_of}

-- at which number, and with which packages, the campaigns go
abbrev pub Packages : Type 0
Packages = ℕ → ℕ → List (List ℕ)

abbrev pub one_if : Option Reply → List Reply
one_if None = []
one_if (Some r) = r ∷ []

-- the replies told to the messages of campaign k before its decision, the oldest first
abbrev pub replies_of : ℕ → List Told → List Message → List Reply
replies_of k ts [] = []
replies_of k ts (m ∷ ms) =
    if nat_eq m.campaign k && not m.decided
    then replies_of k ts ms ++ one_if (told_reply ts m.at)
    else replies_of k ts ms

abbrev pub has_refusal : List Told → Bool
has_refusal [] = false
has_refusal (Answered m r ∷ ts) = is_refusal r || has_refusal ts
has_refusal (Showed _ ∷ ts) = has_refusal ts

-- since the last Done of a ProcessSwPackage a status came that isn't a working one, or there was no such Done
abbrev pub is_settled : List Told → Bool
is_settled [] = true
is_settled (Showed s ∷ ts) = not (is_working s) || is_settled ts
is_settled (Answered m r ∷ ts) = if is_process m.call && is_done r then false else is_settled ts

-- the Done of an Activate was told
abbrev pub activate_done : List Told → Bool
activate_done [] = false
activate_done (Showed s ∷ ts) = activate_done ts
activate_done (Answered m r ∷ ts) = (is_activate m.call && is_done r) || activate_done ts

-- this status was told later than the Done of an Activate
abbrev pub showed_after_activate : Status → List Told → Bool
showed_after_activate x [] = false
showed_after_activate x (Showed s ∷ ts) = (is_status s x && activate_done ts) || showed_after_activate x ts
showed_after_activate x (Answered m r ∷ ts) = showed_after_activate x ts

-- the phase that a call's round needs has come
abbrev pub is_due : Option Phase → Call → Bool
is_due phase Sync = true
is_due phase (TransferStart _) = is_some phase
is_due phase (TransferData _ _ _) = is_some phase
is_due phase (TransferExit _) = is_some phase
is_due (Some Phase.Processing) (ProcessSwPackage _ _) = true
is_due (Some Phase.Activating) (ProcessSwPackage _ _) = true
is_due (Some Phase.Activating) Activate = true
is_due _ _ = false

-- a Sync of campaign k that was sent after its decision and in this epoch
abbrev pub is_end_sync : ℕ → ℕ → Message → Bool
is_end_sync k epoch m = is_sync m.call && (m.decided && (nat_eq m.campaign k && nat_eq m.at.epoch epoch))

abbrev pub shown_if : Bool → Reply → Option Shown
shown_if true (Synced x) = Some x
shown_if _ _ = None

-- what the last such Sync showed
abbrev pub last_shown : ℕ → ℕ → List Told → Option Shown
last_shown k epoch [] = None
last_shown k epoch (Showed s ∷ ts) = last_shown k epoch ts
last_shown k epoch (Answered m r ∷ ts) = option_or (shown_if (is_end_sync k epoch m) r) (last_shown k epoch ts)

abbrev pub session_status : Option SessionMark → Status
session_status None = Idle
session_status (Some x) = x.status

abbrev pub status_if : Bool → Status → Option Status
status_if true s = Some s
status_if false s = None

abbrev pub status_of_shown : Option Shown → Option Status
status_of_shown None = None
status_of_shown (Some x) = Some (session_status x.session)

-- the last status that the answer of such a Sync or a later unit's answer gave
abbrev pub last_status : ℕ → ℕ → List Told → Option Status
last_status k epoch [] = None
last_status k epoch (Showed s ∷ ts) = option_or (status_if (is_some (last_shown k epoch ts)) s) (last_status k epoch ts)
last_status k epoch (Answered m r ∷ ts) =
    option_or (status_of_shown (shown_if (is_end_sync k epoch m) r)) (last_status k epoch ts)

abbrev pub is_masters : Option SessionMark → Bool
is_masters None = false
is_masters (Some x) = nat_eq x.owner 0

abbrev pub lists_free : ℕ → Option Shown → Bool
lists_free id None = false
lists_free id (Some x) = not (is_masters x.session) && list_any (λ there. nat_eq id there) x.transfers

-- the calls that the status and the decision allow
abbrev pub end_call : Decision → Status → Call → Bool
end_call Commit s Finish = is_status s Activated
end_call (Abort _) s Finish = is_status s RolledBack
end_call (Abort _) s Rollback = is_status s Activated
end_call (Abort _) s Revert = is_status s Ready
end_call _ s _ = false

abbrev pub end_call_at : Decision → Option Status → Call → Bool
end_call_at d None call = false
end_call_at d (Some s) call = end_call d s call

abbrev pub delete_at : Option Shown → Call → Bool
delete_at shown (DeleteTransfer id) = lists_free id shown
delete_at shown _ = false

-- the next number in this epoch
abbrev pub next_number : ℕ → List Message → CallNo
next_number epoch [] = record { epoch = epoch; number = 1 }
next_number epoch (m ∷ ms) = record { epoch = epoch; number = if nat_eq m.at.epoch epoch then m.at.number + 1 else 1 }

-- the message before it in this epoch is answered, or was sent before this campaign's Begin,
-- or before the decision and this one comes after it
abbrev pub may_follow : ℕ → Current → List Told → List Message → Bool
may_follow epoch c ts [] = true
may_follow epoch c ts (m ∷ ms) =
    not (nat_eq m.at.epoch epoch)
    || (is_told ts m.at || (not (nat_eq m.campaign c.campaign) || (not m.decided && is_some c.decision)))

-- the call that the rounds ask for next: where the stages are after the told replies, in the order of the messages
abbrev pub IsNextCall : Packages → ℕ → Current → List Told → List Message → Call → Type 0
IsNextCall packages n c ts sent call =
    call_at c.campaign (stage_of (packages c.campaign n) AtSync (replies_of c.campaign ts sent)) ≡ Some call

-- before the decision
pub record MaySendEarly (packages : Packages) (n : ℕ) (c : Current) (ts : List Told) (sent : List Message) (call : Call)
    : Type 0 where
  pub no_mark : is_marked c ≡ false
  pub no_vote : vote_of c n ≡ None
  pub no_refusal : has_refusal ts ≡ false
  pub next : IsNextCall packages n c ts sent call
  pub due : is_due c.phase call ≡ true
  pub settled : is_settled ts ≡ true

-- after it
pub record MaySendLate (epoch n : ℕ) (c : Current) (d : Decision) (ts : List Told) (call : Call) : Type 0 where
  pub not_ended : end_of c n ≡ None
  pub allowed :
      (is_sync call
      || (end_call_at d (last_status c.campaign epoch ts) call || delete_at (last_shown c.campaign epoch ts) call))
      ≡ true

abbrev pub MaySendBy : Packages → ℕ → ℕ → Current → Option Decision → List Told → List Message → Call → Type 0
MaySendBy packages epoch n c None ts sent call = MaySendEarly packages n c ts sent call
MaySendBy packages epoch n c (Some d) ts sent call = MaySendLate epoch n c d ts call

pub record MaySend (packages : Packages) (epoch n : ℕ) (c : Current) (ts : List Told) (sent : List Message)
    (call : Call) : Type 0 where
  pub named : flag_of c.named n ≡ true
  pub follows : may_follow epoch c ts sent ≡ true
  pub by : MaySendBy packages epoch n c c.decision ts sent call

abbrev pub campaign_of : Option Current → ℕ
campaign_of None = 0
campaign_of (Some c) = c.campaign

abbrev pub decided_of : Option Current → Bool
decided_of None = false
decided_of (Some c) = is_some c.decision

abbrev pub empties : MasterEvent → Bool
empties (Start _) = true
empties (Begin _ _) = true
empties _ = false
