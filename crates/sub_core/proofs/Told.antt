-- What the master was told by a driver's answers, by how far the driver is.
use Rattle.std.specs.Prelude.{◌≡◌, ℕ, ⊤, Bool, true, false, List, [], ◌∷◌, Option, Some, None}
use Rattle.campaign_core.specs.declared.events.Cause.{Cause}
use Rattle.pm_types.specs.declared.replies.Reply.{Reply}
use Rattle.pm_types.specs.declared.replies.Reply.TheVariants.{Synced, Refused}
use Rattle.pm_types.specs.declared.replies.Synced.{Synced as Shown}
use Rattle.pm_types.specs.declared.status.Status.TheVariants.{Activated, RolledBack}
use Rattle.ucm_base.specs.declared.ids.CallNo.{CallNo}
use Rattle.world.specs.Messages.{Message, Told, Answered, Showed}
use Rattle.world.specs.Sends.{activate_done, end_call_at, has_refusal, is_end_sync, is_masters, is_settled, last_shown, last_status, showed_after_activate}
use Rattle.sub_core.specs.declared.answers.Finding.{Finding}
use Rattle.sub_core.specs.declared.answers.Got.{Got}
use Rattle.sub_core.specs.declared.answers.SendStep.{SendStep}
use Rattle.sub_core.specs.declared.answers.Todo.{Todo}
use Rattle.sub_core.specs.declared.progress.EndProgress.{EndProgress}
use Rattle.sub_core.specs.declared.progress.Progress.{Progress}
use Rattle.sub_core.specs.Calls.{call_of}
use Rattle.sub_core.specs.Driving.{status_of}
use Rattle.sub_core.specs.Evidence.{IsActivating}
use Rattle.sub_core.specs.Given.{message_of, reply_got}
use Rattle.sub_core.specs.Sends.{decision_of}
use Rattle.sub_core.specs.States.{DriverState}

abbrev pub told_reply : Message → Option Reply → List Told → List Told
told_reply m None told = told
told_reply m (Some reply) told = Answered m reply ∷ told

abbrev pub told_unit : Got → List Told → List Told
told_unit (Got.UnitOf unit) told = Showed (status_of unit) ∷ told
told_unit _ told = told

-- what an answer adds to what was told, the newest first
abbrev pub told_after : List (List ℕ) → DriverState → Todo → Got → List Told → List Told
told_after packages d (Todo.Send call_no asked) got told =
    told_reply (message_of packages d call_no asked) (reply_got asked got) told
told_after packages d Todo.Unit got told = told_unit got told
told_after packages d (Todo.Rest finding) got told = told

-- the last Sync of the end phase showed a session of the master
pub record IsOwned (k epoch : ℕ) (told : List Told) : Type 0 where
  pub shown : Shown
  pub last : last_shown k epoch told ≡ Some shown
  pub session : is_masters shown.session ≡ true

-- the newest that was told is this reply to the call of this number
pub record IsNewest (call_no : CallNo) (reply : Reply) (told : List Told) : Type 0 where
  pub message : Message
  pub older : List Told
  pub is : told ≡ Answered message reply ∷ older
  pub at : message.at ≡ call_no

-- the newest that was told is a Sync of the end phase, which shows no session of the master and no transfers
pub record IsAtRest (k epoch : ℕ) (call_no : CallNo) (told : List Told) : Type 0 where
  pub shown : Shown
  pub newest : IsNewest call_no (Synced shown) told
  pub of_end : is_end_sync k epoch newest.message ≡ true
  pub session : is_masters shown.session ≡ false
  pub transfers : shown.transfers ≡ []

-- a Sync of the end phase listed these, and showed no session of the master
pub record IsListed (k epoch : ℕ) (listed : List ℕ) (told : List Told) : Type 0 where
  pub shown : Shown
  pub last : last_shown k epoch told ≡ Some shown
  pub session : is_masters shown.session ≡ false
  pub transfers : shown.transfers ≡ listed

-- the last status that was told allows the call
pub record IsAllowed (k epoch : ℕ) (commit : Bool) (asked : SendStep) (told : List Told) : Type 0 where
  pub owned : IsOwned k epoch told
  pub allowed : (cause : Cause)
      → end_call_at (decision_of commit cause) (last_status k epoch told) (call_of [] asked) ≡ true

-- the evidence of a finding
abbrev pub Found : ℕ → ℕ → Finding → List Told → Type 0
Found k epoch Finding.Yes told =
    (showed_after_activate Activated told ≡ true) × (has_refusal told ≡ false)
    × (showed_after_activate RolledBack told ≡ false)
Found k epoch Finding.RolledBack told =
    (showed_after_activate RolledBack told ≡ true) × (has_refusal told ≡ false)
    × (showed_after_activate Activated told ≡ false)
Found k epoch (Finding.Refused call_no why) told = IsNewest call_no (Refused why) told
Found k epoch (Finding.Ended call_no) told = IsAtRest k epoch call_no told
Found k epoch _ told = ⊤

abbrev pub EndTold : ℕ → ℕ → Bool → EndProgress → List Told → Type 0
EndTold k epoch commit (EndProgress.Call SendStep.Sync) told = ⊤
EndTold k epoch commit (EndProgress.Call asked) told = IsAllowed k epoch commit asked told
EndTold k epoch commit EndProgress.Units told = IsOwned k epoch told
EndTold k epoch commit (EndProgress.Delete listed place) told = IsListed k epoch listed told
EndTold k epoch commit (EndProgress.Rest call_no) told = IsAtRest k epoch call_no told

abbrev pub ToldAt : ℕ → ℕ → Progress → List Told → Type 0
ToldAt k epoch Progress.Activating told = IsActivating told
ToldAt k epoch (Progress.Voted finding) told = Found k epoch finding told
ToldAt k epoch (Progress.Ending commit at) told = EndTold k epoch commit at told
ToldAt k epoch (Progress.Process taken settled) told =
    (has_refusal told ≡ false) × (is_settled told ≡ settled) × (activate_done told ≡ false)
ToldAt k epoch p told = (has_refusal told ≡ false) × (is_settled told ≡ true) × (activate_done told ≡ false)

-- a driver to which this was told
abbrev pub IsTold : DriverState → List Told → Type 0
IsTold d told = ToldAt d.campaign d.epoch d.progress told
