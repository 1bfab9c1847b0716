-- One numbered call: its judgment, and what a node does with its number.
use Rattle.std.specs.Prelude.{ℕ, ◌+◌, ◌-◌, List, [], ◌∷◌, ◌++◌, length, drop, slice_set, Option, Some, None, option_map}
use Rattle.std.specs.Option.{option_or}
use Rattle.std.specs.Ordering.{nat_cmp, ordering_then}
use Rattle.std.specs.declared.cmp.Ordering.{Ordering}
use Rattle.std.specs.declared.cmp.Ordering.TheVariants.{Less, Equal, Greater}
use Rattle.ucm_base.specs.declared.ids.CallNo.{CallNo}
use Rattle.ucm_base.specs.Limits.{line_limit}
use Rattle.pm_types.specs.declared.calls.Call.{Call}
use Rattle.pm_types.specs.declared.calls.Call.TheVariants.{Sync, TransferStart, TransferData, TransferExit, DeleteTransfer, ProcessSwPackage, Activate, Finish, Rollback, RevertProcessedSwPackages, Cancel}
use Rattle.pm_types.specs.declared.calls.CallName.{CallName}
use Rattle.pm_types.specs.declared.calls.CallName.TheVariants as name
use Rattle.pm_types.specs.declared.history.Happened.{Happened}
use Rattle.pm_types.specs.declared.history.Happened.TheVariants.{Numbered}
use Rattle.pm_types.specs.declared.replies.Reached.{Reached}
use Rattle.pm_types.specs.declared.replies.Reached.TheVariants.{Done as Answered, Again, Stale}
use Rattle.pm_types.specs.declared.replies.Refusal.{Refusal}
use Rattle.pm_types.specs.declared.replies.Reply.{Reply}
use Rattle.pm_types.specs.declared.replies.Reply.TheVariants.{Done, Started, Synced as SyncedTo, Refused}
use Rattle.pm_types.specs.declared.replies.Synced.{Synced}
use Rattle.pm_types.specs.declared.history.Line.{Line}
use Rattle.pm_types.specs.declared.state.Kept.{Kept}
use Rattle.pm_types.specs.NodeState.{NodeOf, NodeState, of_client}
use Rattle.pm_types.specs.Refusals.{first_refusal, refusal_code}
use Rattle.pm_types.specs.Sessions.{session_refusals, process_refusal, activate_refusal, cancel_refusals, take_up, put_back, led_by}
use Rattle.pm_types.specs.Transfers.{Keeping, Verdict, transfer_of, header_of, ids_of, start_refusals, data_refusals, exit_refusals, delete_refusals, verdict_refusal, with_bytes, start, take_block, close, delete}

-- the first refusal of a call; the verdict is that of the bytes of the transfer that an exit names
abbrev pub refusal : NodeState → ℕ → Call → Verdict → Option Refusal
refusal s client Sync verdict = None
refusal s client (TransferStart size) verdict = first_refusal (start_refusals s.next_id (length s.transfers) size)
refusal s client (TransferData id counter bytes) verdict =
    first_refusal (data_refusals (header_of (transfer_of s client id)) counter (length bytes))
refusal s client (TransferExit id) verdict =
    option_or (first_refusal (exit_refusals (header_of (transfer_of s client id)))) (verdict_refusal verdict)
refusal s client (DeleteTransfer id) verdict = first_refusal (delete_refusals (header_of (transfer_of s client id)))
refusal s client (ProcessSwPackage id tag) verdict =
    option_or (first_refusal (session_refusals s client (ProcessSwPackage id tag)))
    (process_refusal s client tag (transfer_of s client id))
refusal s client Activate verdict = option_or (first_refusal (session_refusals s client Activate)) (activate_refusal s)
refusal s client Finish verdict = first_refusal (session_refusals s client Finish)
refusal s client Rollback verdict = first_refusal (session_refusals s client Rollback)
refusal s client RevertProcessedSwPackages verdict = first_refusal (session_refusals s client RevertProcessedSwPackages)
refusal s client (Cancel id) verdict =
    option_or (first_refusal (session_refusals s client (Cancel id)))
    (first_refusal (cancel_refusals (header_of (transfer_of s client id))))

-- what an accepted call does, however the transfers are kept
abbrev pub accept : {C T : Type 0} → Keeping T → NodeOf C T → ℕ → Call → NodeOf C T
accept k s client Sync = s
accept k s client (TransferStart size) = start k s client size
accept k s client (TransferData id counter bytes) = take_block k s id bytes
accept k s client (TransferExit id) = close k s id
accept k s client (DeleteTransfer id) = delete k s id
accept k s client (ProcessSwPackage id tag) = led_by (ProcessSwPackage id tag) (take_up k s client id tag)
accept k s client Activate = led_by Activate s
accept k s client Finish = led_by Finish s
accept k s client Rollback = led_by Rollback s
accept k s client RevertProcessedSwPackages = led_by RevertProcessedSwPackages s
accept k s client (Cancel id) = led_by (Cancel id) (put_back k s id)

abbrev pub accepted : NodeState → ℕ → Call → Verdict → NodeState
accepted s client call verdict = accept (with_bytes verdict) s client call

-- the session, how the client's last one ended, and the client's transfers
abbrev pub synced : NodeState → ℕ → Synced
synced s client = record {
  session = option_map (λ x. record { owner = x.owner; tag = x.tag; status = s.status }) s.session;
  ended = of_client s.ended client;
  transfers = ids_of s client;
}

-- the reply to an accepted call
abbrev pub acceptance : NodeState → ℕ → Call → Reply
acceptance s client Sync = SyncedTo (synced s client)
acceptance s client (TransferStart size) = Started s.next_id
acceptance s client _ = Done

-- the refusal, or else the reply of an accepted call
abbrev pub refused_or : Reply → Option Refusal → Reply
refused_or reply None = reply
refused_or reply (Some refusal) = Refused refusal

-- the reply to a call
abbrev pub reply_to : NodeState → ℕ → Call → Verdict → Reply
reply_to s client call verdict = refused_or (acceptance s client call) (refusal s client call verdict)

-- the state after a call that was answered so: a refusal leaves it
abbrev pub answer_with : {C T : Type 0} → Keeping T → NodeOf C T → ℕ → Call → Reply → NodeOf C T
answer_with k s client call (Refused refusal) = s
answer_with k s client call _ = accept k s client call

abbrev pub after_reply : NodeState → ℕ → Call → Verdict → Reply → NodeState
after_reply s client call verdict reply = answer_with (with_bytes verdict) s client call reply

-- the new state and the reply
abbrev pub judge : NodeState → ℕ → Call → Verdict → NodeState × Reply
judge s client call verdict =
    let reply = reply_to s client call verdict in (after_reply s client call verdict reply, reply)

-- by epoch, then by number
abbrev pub call_no_cmp : CallNo → CallNo → Ordering
call_no_cmp a b = ordering_then (nat_cmp a.epoch b.epoch) (nat_cmp a.number b.number)

-- the newest lines
abbrev pub newest : List Line → List Line
newest lines = drop (length lines - line_limit) lines

-- one entry more, and its line
abbrev pub with_entry : {C T : Type 0} → Happened → NodeOf C T → NodeOf C T
with_entry happened s = record s {
  entries = s.entries + 1;
  lines = newest (s.lines ++ record { place = s.entries; happened = happened } ∷ []);
}

abbrev pub name_of : Call → CallName
name_of Sync = name.Sync
name_of (TransferStart size) = name.TransferStart
name_of (TransferData id counter bytes) = name.TransferData
name_of (TransferExit id) = name.TransferExit
name_of (DeleteTransfer id) = name.DeleteTransfer
name_of (ProcessSwPackage id tag) = name.ProcessSwPackage
name_of Activate = name.Activate
name_of Finish = name.Finish
name_of Rollback = name.Rollback
name_of RevertProcessedSwPackages = name.RevertProcessedSwPackages
name_of (Cancel id) = name.Cancel

-- the refusal's number, or 0
abbrev pub reply_code : Reply → ℕ
reply_code (Refused refusal) = refusal_code refusal
reply_code _ = 0

-- the client's number and reply are kept
abbrev pub with_kept : {C T : Type 0} → ℕ → CallNo → Reply → NodeOf C T → NodeOf C T
with_kept client call_no reply s =
    record s { last = slice_set s.last client (Some (record { no = call_no; reply = reply })) }

-- the state after a call with a new number: its effect, its number and reply, and its line
abbrev pub execute : {C T : Type 0} → Keeping T → NodeOf C T → ℕ → CallNo → Call → Reply → NodeOf C T
execute k s client call_no call reply =
    with_entry (Numbered client call_no (name_of call) (reply_code reply))
    (with_kept client call_no reply (answer_with k s client call reply))

abbrev pub after_call : NodeState → ℕ → CallNo → Call → Verdict → Reply → NodeState
after_call s client call_no call verdict reply = execute (with_bytes verdict) s client call_no call reply

-- a call with a new number is judged, kept and entered
abbrev pub executed : NodeState → ℕ → CallNo → Call → Verdict → NodeState × Reached
executed s client call_no call verdict =
    let reply = reply_to s client call verdict in
    (after_call s client call_no call verdict reply, Answered reply)

-- Stale below the client's last number, Again at it, which change nothing; else what executing the call gives
abbrev pub by_order : NodeState → NodeState × Reached → Kept → Ordering → NodeState × Reached
by_order s done kept Less = (s, Stale kept.no)
by_order s done kept Equal = (s, Again kept.reply)
by_order s done kept Greater = done

abbrev pub by_last : NodeState → NodeState × Reached → CallNo → Option Kept → NodeState × Reached
by_last s done call_no None = done
by_last s done call_no (Some kept) = by_order s done kept (call_no_cmp call_no kept.no)

-- what a call gives that isn't newer than its client's last one
abbrev pub repeat_by : Kept → Ordering → Option Reached
repeat_by kept Less = Some (Stale kept.no)
repeat_by kept Equal = Some (Again kept.reply)
repeat_by kept Greater = None

abbrev pub repeat_of : CallNo → Option Kept → Option Reached
repeat_of call_no None = None
repeat_of call_no (Some kept) = repeat_by kept (call_no_cmp call_no kept.no)

-- one numbered call
abbrev pub step : NodeState → ℕ → CallNo → Call → Verdict → NodeState × Reached
step s client call_no call verdict =
    by_last s (executed s client call_no call verdict) call_no (of_client s.last client)
