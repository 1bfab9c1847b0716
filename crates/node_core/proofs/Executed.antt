-- An executed call is the definition's step, over each areas over which the node is sound and all is ready.

use Rattle.node_core.proofs.Names.{Activate, Answered, Areas, Call, CallNo, Cancel, DeleteTransfer, Done, Finish}
use Rattle.node_core.proofs.Names.{Happened, Holding, IsExecuted, IsFit, IsReady, IsSound, Keeping, Kept, NodeState}
use Rattle.node_core.proofs.Names.{None, Option, Prepared, ProcessSwPackage, Reached, Refusal, Refused, Reply}
use Rattle.node_core.proofs.Names.{RevertProcessedSwPackages, Rollback, Some, StandsFor, Started, State}
use Rattle.node_core.proofs.Names.{StoredTransfer, Sync, SyncedTo, TransferData, TransferExit, TransferStart, accept}
use Rattle.node_core.proofs.Names.{acceptance, accepted, after_call, after_reply, answer_with, ap, arith}
use Rattle.node_core.proofs.Names.{client_limit, execute, kept_by, led_by, node_of, of_client, package_reading}
use Rattle.node_core.proofs.Names.{refl, refusal_by, refused_or, repeat_of, reply_by, step_by, subst, sym}
use Rattle.node_core.proofs.Names.{under, verdict_on, with_entry, with_kept, ℕ, ◌<◌, ◌∙◌, ◌≡◌}
use Rattle.node_core.proofs.Accepted.{block-stands, close-stands, delete-stands, start-stands}
use Rattle.node_core.proofs.Arrived.{copied-by, led-stands}
use Rattle.node_core.proofs.Begun.{process-stands}
use Rattle.node_core.proofs.Phased.{cancel-stands}
use Rattle.node_core.proofs.Sound.{sound-stands, step-fit, step-is}
use Rattle.node_core.proofs.Stored.{order-of}
use Rattle.pm_types.specs.Steps.{by_last, executed as executed_by}

-- what an accepted call makes of the stored state stands for what it makes of the node
pub accept-stands : (v : Holding) → IsSound v → (client : ℕ) (call : Call) → IsReady v client call
    → refusal_by v client call ≡ None
    → StandsFor v.areas (accept (kept_by (under v)) v.state client call)
    (accepted (node_of v) client call (verdict_on v client call))
accept-stands v sound client Sync ready none = sound-stands v sound
accept-stands v sound client (TransferStart size) ready none = start-stands v sound client size none
accept-stands v sound client (TransferData id counter bytes) ready none =
    block-stands v sound client id counter bytes ready none
accept-stands v sound client (TransferExit id) ready none = close-stands v sound client id ready none
accept-stands v sound client (DeleteTransfer id) ready none = delete-stands v sound client id
accept-stands v sound client (ProcessSwPackage id tag) ready none = process-stands v client id tag sound none
accept-stands v sound client Activate ready none =
    led-stands v.areas v.state (node_of v) Activate (sound-stands v sound)
accept-stands v sound client Finish ready none = led-stands v.areas v.state (node_of v) Finish (sound-stands v sound)
accept-stands v sound client Rollback ready none =
    led-stands v.areas v.state (node_of v) Rollback (sound-stands v sound)
accept-stands v sound client RevertProcessedSwPackages ready none =
    led-stands v.areas v.state (node_of v) RevertProcessedSwPackages (sound-stands v sound)
accept-stands v sound client (Cancel id) ready none = cancel-stands v client id sound none

-- what isn't answered by a refusal is accepted
pub accepted-none : (v : Holding) (client : ℕ) (call : Call) (reply : Reply) → reply ≡ reply_by v client call
    → ((why : Refusal) → reply ≡ Refused why → ⊥) → refusal_by v client call ≡ None
accepted-none v client call reply e n =
    go (refusal_by v client call) e
  where
    go : (o : Option Refusal) → reply ≡ refused_or (acceptance (node_of v) client call) o → o ≡ None
    go None e = refl
    go (Some why) e = absurd (n why e)

-- the call's effect, where it was answered so
answer-stands : (v : Holding) → IsSound v → (client : ℕ) (call : Call) → IsReady v client call → (reply : Reply)
    → reply ≡ reply_by v client call
    → StandsFor v.areas (answer_with (kept_by (under v)) v.state client call reply)
    (after_reply (node_of v) client call (verdict_on v client call) reply)
answer-stands v sound client call ready (Refused why) e = sound-stands v sound
answer-stands v sound client call ready Done e =
    accept-stands v sound client call ready (accepted-none v client call Done e (λ why q. absurd (cc)))
answer-stands v sound client call ready (Started id) e =
    accept-stands v sound client call ready (accepted-none v client call (Started id) e (λ why q. absurd (cc)))
answer-stands v sound client call ready (SyncedTo shown) e =
    accept-stands v sound client call ready (accepted-none v client call (SyncedTo shown) e (λ why q. absurd (cc)))

-- a call leaves the count of entries to its line
led-entries : (s : State) (c : Call) → (led_by c s).entries ≡ s.entries
led-entries s c = grind arith

accept-entries : (k : Keeping StoredTransfer) (s : State) (client : ℕ) (call : Call)
    → (accept k s client call).entries ≡ s.entries
accept-entries k s client call = grind (arith, led-entries)

-- a number and a reply change nothing that order looks at
kept-stands : (areas : Areas) (s : State) (n : NodeState) (client : ℕ) (at : CallNo) (reply : Reply)
    → StandsFor areas s n → StandsFor areas (with_kept client at reply s) (with_kept client at reply n)
kept-stands areas s n client at reply stands = let i = stands.order in record {
  node = ap (with_kept client at reply) stands.node;
  order = order-of (with_kept client at reply s) i.transfers i.slots i.running i;
  copied = copied-by areas s (with_kept client at reply s) refl refl refl s.transfers stands.copied;
}

-- nor does a line
pub line-stands : (areas : Areas) (s : State) (n : NodeState) (happened : Happened) → StandsFor areas s n
    → StandsFor areas (with_entry happened s) (with_entry happened n)
line-stands areas s n happened stands = let i = stands.order in record {
  node = ap (with_entry happened) stands.node;
  order = order-of (with_entry happened s) i.transfers i.slots i.running i;
  copied = copied-by areas s (with_entry happened s) refl refl refl s.transfers stands.copied;
}

pub same-entries : (k : Keeping StoredTransfer) (s : State) (client : ℕ) (call : Call) (reply : Reply)
    → (answer_with k s client call reply).entries ≡ s.entries
same-entries k s client call reply = grind (arith, accept-entries k s client call)

-- what a step gives that isn't newer, and what one gives that is
module _ (v : Holding) (client : ℕ) (at : CallNo) (call : Call) where
  repeats : (r : Reached) → repeat_of at (of_client v.state.last client) ≡ Some r
      → step_by v client at call ≡ (node_of v, r)
  repeats r e = go (of_client v.state.last client) e
    where
      go : (o : Option Kept) → repeat_of at o ≡ Some r → by_last (node_of v)
          (executed_by (node_of v) client at call (verdict_on v client call)) at o ≡ (node_of v, r)
      go o e = grind (arith, e)

  newer : repeat_of at (of_client v.state.last client) ≡ None
      → step_by v client at call ≡ (
        after_call (node_of v) client at call (verdict_on v client call) (reply_by v client call),
        Answered (reply_by v client call),
      )
  newer none = step-is (node_of v) client at call (verdict_on v client call) none

  pub again-is : (r : Reached) → repeat_of at (of_client v.state.last client) ≡ Some r
      → r ≡ (step_by v client at call).1
  again-is r e = sym (ap (λ p. p.1) (repeats r e))

  pub answer-is : (reply : Reply) → repeat_of at (of_client v.state.last client) ≡ None
      → reply ≡ reply_by v client call → Answered reply ≡ (step_by v client at call).1
  answer-is reply none e = ap Answered e ∙ sym (ap (λ p. p.1) (newer none))

  -- a newer call makes the definition's step
  pub newer-executed : client < client_limit → IsSound v → IsReady v client call
      → repeat_of at (of_client v.state.last client) ≡ None
      → (reply : Reply) → reply ≡ reply_by v client call
      → (s : State) → s ≡ execute (kept_by (under v)) v.state client at call reply → (p : Prepared)
      → IsExecuted v client at call (Answered reply) (record { areas = v.areas; state = s; prepared = p })
  newer-executed low sound ready none reply e s is p =
      let after = ap (λ z. z.0) (newer none)
      ∙ ap (after_call (node_of v) client at call (verdict_on v client call)) (sym e) in
      let stands = subst (λ z. StandsFor v.areas z (step_by v client at call).0) (sym is)
      (subst (StandsFor v.areas (execute (kept_by (under v)) v.state client at call reply)) (sym after)
      (line-stands v.areas _ _ _
      (kept-stands v.areas _ _ client at reply (answer-stands v sound client call ready reply e)))) in
      record {
        reached = answer-is reply none e;
        node = stands.node;
        sound = record {
          fit = subst (IsFit package_reading) (sym stands.node) (step-fit v client at call low sound);
          order = stands.order;
          copied = stands.copied;
        };
      }
