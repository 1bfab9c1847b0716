-- The record of a call that a node executes is allowed, and does what the call does.
use Rattle.std.proofs.Common.{◌≡◌, inl, inr, ℕ, ◌<◌, length, Option, Some, None, refl, sym, ◌∙◌, ap}
use Rattle.std.proofs.lemmas.List.{length-replicate}
use Rattle.std.specs.Option.{option_or}
use Rattle.ucm_base.specs.Limits.{entry_limit}
use Rattle.ucm_base.specs.declared.ids.CallNo.{CallNo}
use Rattle.pm_types.specs.declared.calls.Call.{Call}
use Rattle.pm_types.specs.declared.calls.Call.TheVariants.{Sync, TransferStart, TransferData, TransferExit, DeleteTransfer, ProcessSwPackage, Activate, Finish, Rollback, RevertProcessedSwPackages, Cancel}
use Rattle.pm_types.specs.declared.replies.Refusal.{Refusal}
use Rattle.pm_types.specs.declared.replies.Reply.TheVariants.{Done, Refused}
use Rattle.pm_types.specs.Refusals.{first_refusal}
use Rattle.pm_types.specs.declared.calls.CallName.TheVariants as name
use Rattle.pm_types.specs.declared.history.Happened.TheVariants.{Numbered}
use Rattle.pm_types.specs.Refusals.{refusal_code}
use Rattle.pm_types.specs.Steps.{acceptance, execute, name_of, refused_or, with_entry, with_kept}
use Rattle.pm_types.specs.Stored.{State}
use Rattle.pm_types.specs.Transfers.{exit_refusals, grown, with_transfer}
use Rattle.transfer_blocks.specs.Table.{stored_header}
use Rattle.node_core.specs.Core.{Holding, IsReady, IsSound, Readied, kept_by, node_of, refusal_by, reply_by, under}
use Rattle.node_core.proofs.Accepted.{block-refused, delete-refused, exit-refused, start-refused}
use Rattle.node_core.proofs.Sound.{table-is}
use Rattle.event_codec.specs.Deciding.{Tested}
use Rattle.event_codec.specs.declared.records.Record.{Record}
use Rattle.node_recovery.specs.Allowed.{IsAllowed, MayHappen}
use Rattle.node_recovery.specs.Deciding.{after_record, test_allowed, where_allowed}
use Rattle.node_recovery.specs.Folds.{call_of, effect}
use Rattle.node_recovery.specs.Recorded.{record_of, stored_call}

told_allowed : {P : Type 0} (t : Tested P) (after : Option State) → P → where_allowed t after ≡ after
told_allowed (inl may) after p = refl
told_allowed (inr none) after p = absurd (none p)

-- a record that is allowed has its effect
pub allowed_effect : (s : State) (r : Record) → IsAllowed s r → after_record s r ≡ effect s r
unfolding after_record
allowed_effect s r is = told_allowed (test_allowed s r) (effect s r) is

-- what a record makes of a state: where it is allowed, its effect
told : {P : Type 0} (t : Tested P) (after : Option State) (s : State) → where_allowed t after ≡ Some s
    → P × (after ≡ Some s)
told (inl may) after s e = (may, e)
told (inr none) after s e = absurd (cc)

pub record_makes : (s t : State) (r : Record) → after_record s r ≡ Some t → IsAllowed s r × (effect s r ≡ Some t)
unfolding after_record
record_makes s t r e = told (test_allowed s r) (effect s r) t e

-- where the first of two refusals is none
first_none : (o q : Option Refusal) → option_or o q ≡ None → o ≡ None
first_none None q none = refl
first_none (Some why) q none = absurd (cc)

-- what is recorded of a call that isn't refused may happen
accepted_happens : (v : Holding) (client : ℕ) (call_no : CallNo) (call : Call) → IsReady v client call
    → refusal_by v client call ≡ None
    → MayHappen v.state (record_of (under v) client call_no call (acceptance (node_of v) client call))
accepted_happens v client call_no Sync ready none = refl
accepted_happens v client call_no (TransferStart size) ready none = sym (start-refused v client size) ∙ none
accepted_happens v client call_no (TransferData id counter block) ready none =
    sym (block-refused v client id counter block) ∙ none
accepted_happens v client call_no (TransferExit id) ready none =
    first_none (first_refusal (exit_refusals (stored_header v.state.transfers client id))) _
    (sym (exit-refused v client id ready) ∙ none)
accepted_happens v client call_no (DeleteTransfer id) ready none = sym (delete-refused v client id) ∙ none
accepted_happens v client call_no (ProcessSwPackage id tag) ready none = refl
accepted_happens v client call_no Activate ready none = refl
accepted_happens v client call_no Finish ready none = refl
accepted_happens v client call_no Rollback ready none = refl
accepted_happens v client call_no RevertProcessedSwPackages ready none = refl
accepted_happens v client call_no (Cancel id) ready none = refl

happens : (v : Holding) (client : ℕ) (call_no : CallNo) (call : Call) (o : Option Refusal) → IsReady v client call
    → refusal_by v client call ≡ o
    → MayHappen v.state (record_of (under v) client call_no call (refused_or (acceptance (node_of v) client call) o))
happens v client call_no call None ready is = accepted_happens v client call_no call ready is
happens v client call_no call (Some why) ready is = tt

-- a block counts by its length
grown_by : ℕ → CallNo → ℕ → ℕ → Readied → ℕ → Option State
grown_by client call_no id counter r size =
    Some (with_entry (Numbered client call_no name.TransferData 0) (with_kept client call_no Done
    (with_transfer (kept_by r) id (λ t. record t { header = grown size t.header }) r.state)))

accepted_effect : (v : Holding) (client : ℕ) (call_no : CallNo) (call : Call)
    → effect v.state (record_of (under v) client call_no call (acceptance (node_of v) client call))
    ≡ Some (execute (kept_by (under v)) v.state client call_no call (acceptance (node_of v) client call))
unfolding grown_by
accepted_effect v client call_no Sync = refl
accepted_effect v client call_no (TransferStart size) = refl
accepted_effect v client call_no (TransferData id counter block) =
    ap (grown_by client call_no id counter (under v)) (length-replicate (length block) 0)
accepted_effect v client call_no (TransferExit id) = refl
accepted_effect v client call_no (DeleteTransfer id) = refl
accepted_effect v client call_no (ProcessSwPackage id tag) = refl
accepted_effect v client call_no Activate = refl
accepted_effect v client call_no Finish = refl
accepted_effect v client call_no Rollback = refl
accepted_effect v client call_no RevertProcessedSwPackages = refl
accepted_effect v client call_no (Cancel id) = refl

same_name : (call : Call) → name_of (call_of (stored_call call)) ≡ name_of call
same_name Sync = refl
same_name (TransferStart size) = refl
same_name (TransferData id counter block) = refl
same_name (TransferExit id) = refl
same_name (DeleteTransfer id) = refl
same_name (ProcessSwPackage id tag) = refl
same_name Activate = refl
same_name Finish = refl
same_name Rollback = refl
same_name RevertProcessedSwPackages = refl
same_name (Cancel id) = refl

does : (v : Holding) (client : ℕ) (call_no : CallNo) (call : Call) (o : Option Refusal)
    → let reply = refused_or (acceptance (node_of v) client call) o in
    effect v.state (record_of (under v) client call_no call reply)
    ≡ Some (execute (kept_by (under v)) v.state client call_no call reply)
does v client call_no call None = accepted_effect v client call_no call
does v client call_no call (Some why) =
    ap (λ name. Some (with_entry (Numbered client call_no name (refusal_code why))
    (with_kept client call_no (Refused why) v.state))) (same_name call)

-- the record of a call with its reply is allowed, and has the call's effect
pub recorded : (v : Holding) (client : ℕ) (call_no : CallNo) (call : Call) → v.state.entries < entry_limit → IsSound v
    → IsReady v client call → after_record v.state (record_of (under v) client call_no call (reply_by v client call))
    ≡ Some (execute (kept_by (under v)) v.state client call_no call (reply_by v client call))
recorded v client call_no call room sound ready =
    allowed_effect v.state (record_of (under v) client call_no call (reply_by v client call)) (record {
      table = table-is v sound;
      entries = room;
      event = happens v client call_no call (refusal_by v client call) ready refl;
    }) ∙ does v client call_no call (refusal_by v client call)
