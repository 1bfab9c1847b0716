-- What a recorded call makes of a node.
use Rattle.std.proofs.Common.{◌≡◌, inl, inr, ⊎_elim, ℕ, ◌<◌, List, Option, Some, None, refl, sym, ◌∙◌, ap, subst}
use Rattle.std.specs.Prelude.{option_and_then}
use Rattle.std.specs.declared.cmp.Ordering.{Ordering}
use Rattle.std.specs.declared.cmp.Ordering.TheVariants.{Less, Equal, Greater}
use Rattle.disk_core.specs.Images.{EachImage, Only}
use Rattle.checkpoint.specs.Halves.{layout_2, layout_of}
use Rattle.event_log.specs.Doubts.{Either, of_event}
use Rattle.event_log.specs.Holds.{Holds, StandsFor}
use Rattle.event_log.specs.declared.log.Log.{Log}
use Rattle.event_log.proofs.Steps.{stands_for}
use Rattle.ucm_base.specs.Limits.{client_limit, entry_limit}
use Rattle.ucm_base.specs.declared.ids.CallNo.{CallNo}
use Rattle.pm_types.specs.declared.calls.Call.{Call}
use Rattle.pm_types.specs.declared.calls.Call.TheVariants.{Sync, TransferStart, TransferData, TransferExit, DeleteTransfer, ProcessSwPackage, Activate, Finish, Rollback, RevertProcessedSwPackages, Cancel}
use Rattle.pm_types.specs.declared.replies.Reached.{Reached}
use Rattle.pm_types.specs.declared.replies.Reached.TheVariants.{Done as Answered}
use Rattle.pm_types.specs.declared.replies.Reply.{Reply}
use Rattle.pm_types.specs.declared.replies.Reply.TheVariants.{Done, Started, Synced as SyncedTo, Refused}
use Rattle.pm_types.specs.declared.state.Kept.{Kept}
use Rattle.pm_types.specs.NodeState.{NodeState, of_client}
use Rattle.pm_types.specs.Steps.{call_no_cmp, execute, repeat_by, repeat_of}
use Rattle.pm_types.specs.Stored.{Areas, State, meaning}
use Rattle.slot_store.specs.Extents.{HasExtents, held_in, node_places}
use Rattle.node_core.specs.declared.prepared.Prepared.{Prepared}
use Rattle.node_core.specs.Core.{Holding, IsExecuted, IsReserved, IsSound, Readied, holding, kept_by, node_of, over, reply_by, state_after, step_by}
use Rattle.node_core.specs.Packages.{package_reading}
use Rattle.node_core.proofs.Executed.{again-is, answer-is, newer-executed}
use Rattle.event_codec.specs.Deciding.{is_whole}
use Rattle.event_codec.specs.DecidingRecords.{record_told, tells-record}
use Rattle.event_codec.specs.DecidingStates.{state_told}
use Rattle.event_codec.specs.Records.{RecordFits, record_spelled}
use Rattle.event_codec.specs.UniqueRecords.{unique-record}
use Rattle.event_codec.specs.declared.records.Record.{Record}
use Rattle.node_recovery.specs.Deciding.{after_record}
use Rattle.node_recovery.specs.Images.{after_bytes}
use Rattle.node_recovery.specs.Recorded.{record_of}
use Rattle.node_recovery.proofs.Recorded.{recorded}
use Rattle.node_store.specs.Open.{IsOpen}
use Rattle.node_store.specs.Serving.{HoldsNode, Serves, ServesEither, node_on}

-- a repeat isn't executed
not-done : (kept : Kept) (order : Ordering) (reply : Reply) → repeat_by kept order ≡ Some (Answered reply) → ⊥
not-done kept Less reply e = absurd (cc)
not-done kept Equal reply e = absurd (cc)
not-done kept Greater reply e = absurd (cc)

no-repeat : (call_no : CallNo) (o : Option Kept) (reply : Reply) → repeat_of call_no o ≡ Some (Answered reply) → ⊥
no-repeat call_no None reply e = absurd (cc)
no-repeat call_no (Some kept) reply e = not-done kept (call_no_cmp call_no kept.no) reply e

-- a record that is spelled is told
pub told-back : (r : Record) → RecordFits r → record_told (record_spelled r) ≡ Some r
unfolding record_told
told-back r fits = is_whole unique-record (record_spelled r) r (tells-record (record_spelled r)) fits refl

-- a state that is sound over areas is so over the same ones of an image
pub on-image : (areas : Areas) (p : Prepared) (s : State) (n : NodeState) (image : List ℕ)
    → HasExtents node_places image → held_in node_places image ≡ areas
    → IsSound (record { areas = areas; state = s; prepared = p }) → meaning package_reading areas s ≡ n
    → HoldsNode s n image
on-image areas p s n image has same sound node = record {
  extents = has;
  node = ap (λ held. meaning package_reading held s) same ∙ node;
  sound = subst (λ held. IsSound (holding held s)) (sym same)
      (record { fit = sound.fit; order = sound.order; copied = sound.copied });
}

-- a newer call for which all is ready, answered so
module _ (r : Readied) (areas : Areas) (client : ℕ) (call_no : CallNo) (call : Call) (reply : Reply)
    (low : client < client_limit) (room : r.state.entries < entry_limit) (sound : IsSound (over areas r))
    (reserved : IsReserved (over areas r) client call_no call)
    (due : Answered reply ≡ (step_by (over areas r) client call_no call).1) where
  abbrev v : Holding
  v = over areas r

  newer : repeat_of call_no (of_client r.state.last client) ≡ None
  newer = go (repeat_of call_no (of_client r.state.last client)) refl
    where
      go : (o : Option Reached) → repeat_of call_no (of_client r.state.last client) ≡ o → o ≡ None
      go None e = refl
      go (Some reached) e = absurd (no-repeat call_no (of_client r.state.last client) reply
          (e ∙ ap Some (again-is v client call_no call reached e ∙ sym due)))

  answered : reply ≡ reply_by v client call
  answered =
      let same : Answered reply ≡ Answered (reply_by v client call) =
      due ∙ sym (answer-is v client call_no call (reply_by v client call) newer refl) in cc

  -- the state behind it
  abbrev pub after : State
  after = execute (kept_by r) r.state client call_no call reply

  pub done : (p : Prepared)
      → IsExecuted v client call_no call (Answered reply) (record { areas = areas; state = after; prepared = p })
  done p = newer-executed v client call_no call low sound (reserved newer) newer reply answered after refl p

  -- its record makes this state
  pub makes : RecordFits (record_of r client call_no call reply)
      → after_bytes r.state (record_spelled (record_of r client call_no call reply)) ≡ Some after
  makes fits = ap (option_and_then (after_record r.state)) (told-back (record_of r client call_no call reply) fits)
      ∙ subst (λ given. after_record r.state (record_of r client call_no call given)
      ≡ Some (execute (kept_by r) r.state client call_no call given)) (sym answered)
      (recorded v client call_no call room sound (reserved newer))

  -- an image of before its record or after it
  pub serves : (text : List ℕ) → after_bytes r.state text ≡ Some after → (image : List ℕ)
      → Either state_told after_bytes layout_2 (of_event after_bytes r.state text) image
      → HasExtents node_places image → held_in node_places image ≡ areas
      → ServesEither (node_of v) (step_by v client call_no call).0 image
  serves text makes image either has same = ⊎_elim
      (λ before. inl (
        r.state,
        record {
          log = before;
          node = on-image areas r.prepared r.state (node_of v) image has same sound refl;
        },
      ))
      (λ behind. inr (
        after,
        record {
          log = subst (λ o. StandsFor state_told after_bytes layout_2 o image) makes behind;
          node = on-image areas r.prepared after (step_by v client call_no call).0 image has same
              (done r.prepared).sound (done r.prepared).node;
        },
      )) either

  -- the node behind its record
  pub opened : (log : Log) (images : List ℕ → Type 0) (new : Readied) (given : Reached) (seen text : List ℕ)
      → layout_of log.half ≡ layout_2 → HasExtents node_places seen → held_in node_places seen ≡ areas
      → after_bytes r.state text ≡ Some after → IsExecuted v client call_no call given (over areas new)
      → new.state ≡ state_after r client call_no call given
      → EachImage images (Holds state_told after_bytes log (after_bytes r.state text)) → Only seen images
      → IsOpen log new seen images
  opened log images new given seen text pair has same makes done is holds only = record {
    pair = pair;
    extents = has;
    sound = subst (λ held. IsSound (over held new)) (sym same) done.sound;
    holds = λ c now. subst (λ o. Holds state_told after_bytes log o c)
        (makes ∙ sym (ap Some (is ∙ ap (state_after r client call_no call) (done.reached ∙ sym due)))) (holds c now);
    durable = only;
  }

-- the client of a record of a kind that there is
pub is_low : (r : Readied) (client : ℕ) (call_no : CallNo) (call : Call) (reply : Reply)
    → RecordFits (record_of r client call_no call reply) → client < client_limit
is_low r client call_no call (Started id) f = f.1.0
is_low r client call_no call (SyncedTo shown) f = f.1.0
is_low r client call_no call (Refused why) f = f.1.0
is_low r client call_no Sync Done f = f.1.0
is_low r client call_no (TransferStart size) Done f = f.1.0
is_low r client call_no (TransferData id counter block) Done f = f.1.0
is_low r client call_no (TransferExit id) Done f = f.1.0
is_low r client call_no (DeleteTransfer id) Done f = f.1.0
is_low r client call_no (ProcessSwPackage id tag) Done f = f.1.0
is_low r client call_no Activate Done f = f.1.0
is_low r client call_no Finish Done f = f.1.0
is_low r client call_no Rollback Done f = f.1.0
is_low r client call_no RevertProcessedSwPackages Done f = f.1.0
is_low r client call_no (Cancel id) Done f = f.1.0

-- each image of an open node's disk is the node's
pub open_serves : (log : Log) (r : Readied) (seen : List ℕ) (images : List ℕ → Type 0) → IsOpen log r seen images
    → EachImage images (Serves (node_on r.state seen))
open_serves log r seen images k c now =
    let same : c ≡ seen = k.durable c now in (
      r.state,
      record {
        log = subst (λ l. StandsFor state_told after_bytes l (Some r.state) c) k.pair
            (stands_for state_told after_bytes log (Some r.state) c (k.holds c now));
        node = on-image (held_in node_places seen) r.prepared r.state (node_on r.state seen) c
            (subst (HasExtents node_places) (sym same) k.extents) (ap (held_in node_places) same) k.sound refl;
      },
    )
