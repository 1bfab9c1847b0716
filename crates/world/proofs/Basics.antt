-- Laws of the real node: what is kept, what a refusal leaves, Sync, and the calls on a session.
use Rattle.world.proofs.Names.{nat_tests, ◌≡◌, ◌⊎◌, inl, inr, ℕ, List, ◌∷◌, Option, Some, None, Bool, true, false, refl}
use Rattle.world.proofs.Names.{sym, ◌∙◌, ap, arith, ◌==◌, not, option_map, option_and_then, if◌then◌else◌}
use Rattle.world.proofs.Names.{option_map_or, eqb-true, get_or-set_same, CallNo, Bytes, SessionMark, Refusal, Cluster}
use Rattle.world.proofs.Names.{Status, Idle, Kept, NodeState, Session, of_client, first_refusal, Verdict, ids_of, judge}
use Rattle.world.proofs.Names.{reply_to, refusal, accepted, refused_or, Reading, verdict_for, IsConsistent}
use Rattle.world.proofs.Names.{SessionIsDue, Call, Shown, Reply, Sync, TransferStart, TransferData, TransferExit}
use Rattle.world.proofs.Names.{DeleteTransfer, ProcessSwPackage, Activate, Finish, Rollback, Revert, Done, Started}
use Rattle.world.proofs.Names.{Synced, Refused, is_status}
use Rattle.world.proofs.Rules.{shown_of as seen_of, shown_session, KeepsSession, KeepsTransfers}
use Rattle.world.proofs.Instance.{zero_no, last_in, kept_in, tag_if, ended_in, judged_in, kept_after, real}
use Rattle.pm_types.specs.declared.calls.Call.TheVariants as call
use Rattle.pm_types.specs.declared.replies.Reply.TheVariants as reply

-- a judgment that is refused, or done
pub judged-by : (s : NodeState) (client : ℕ) (c : Call) (v : Verdict) (P : NodeState → Type 0) → P s
    → P (accepted s client c v) → P (judge s client c v).0
judged-by s client c v P here there = grind arith

pub refused-leaves : (s : NodeState) (client : ℕ) (c : Call) (v : Verdict) (why : Refusal)
    → (reply_to s client c v) ≡ Refused why → (judge s client c v).0 ≡ s
refused-leaves s client c v why e = grind arith

pub done-none : (r : Reply) (o : Option Refusal) → (refused_or r o) ≡ Done → o ≡ None
done-none r x e = grind arith

pub done-or-refused : (r : Reply) (o : Option Refusal) → r ≡ Done
    → ((refused_or r o) ≡ Done) ⊎ ((why : Refusal) × ((refused_or r o) ≡ Refused why))
done-or-refused r x e = grind arith

pub not-refused : (row : Bool × Refusal) (rows : List (Bool × Refusal)) → first_refusal (row ∷ rows) ≡ None
    → (row.0 ≡ false) × (first_refusal rows ≡ None)
not-refused x rows e = grind arith

-- what is kept
pub last-kept : (s : NodeState) (at : CallNo) (c : Call) (r : Reply) → IsConsistent s
    → of_client (kept_after s at c r).last 0 ≡ Some (record { no = at; reply = r })
last-kept s at c r v = grind (arith, get_or-set_same)

pub keep_last : (s : NodeState) (at : CallNo) (c : Call) (r : Reply) → IsConsistent s
    → last_in (kept_after s at c r) ≡ at
keep_last s at c r v = ap (λ o. option_map_or (λ (k : Kept). k.no) o zero_no) (last-kept s at c r v)

pub keep_kept : (s : NodeState) (at : CallNo) (c : Call) (r : Reply) → IsConsistent s
    → kept_in (kept_after s at c r) ≡ r
keep_kept s at c r v = ap (λ o. option_map_or (λ (k : Kept). k.reply) o Done) (last-kept s at c r v)

-- what Sync shows of the session
abbrev mark_of : Status → Session → SessionMark
mark_of st x = record { owner = x.owner; tag = x.tag; status = st }

seen : (owner tag : ℕ) (st : Status) (b c : Bool) → (owner == 0) ≡ b → (tag == 0) ≡ c → c ≡ not b
    → is_status st Idle ≡ false
    → ◌≡◌ {A = Option SessionMark} (Some (record { owner = owner; tag = tag; status = st }))
    (seen_of owner st (tag_if b tag))
seen owner tag st true c p q r i =
    let z : owner ≡ 0 = eqb-true owner 0 p in ap (λ (n : ℕ). Some (record { owner = n; tag = tag; status = st })) z
seen owner tag st false true p q r i =
    let z : tag ≡ 0 = eqb-true tag 0 q in ap (λ (n : ℕ). Some (record { owner = owner; tag = n; status = st })) z
    ∙ sym (ap (λ (b : Bool). if b then None else Some (record { owner = owner; tag = 0; status = st })) i)
seen owner tag st false false p q r i = absurd (cc r)

session-shown : (o : Option Session) (st : Status) → SessionIsDue st o
    → option_map (mark_of st) o
    ≡ seen_of (option_map_or (λ (x : Session). x.owner) o 0) st
    (option_and_then (λ (x : Session). tag_if (x.owner == 0) x.tag) o)
session-shown x y h = grind arith

module _ (read : Reading) (clusters : List (Cluster Bytes)) where
  -- a step that leaves the session and the status
  pub keeps-of : (s t : NodeState) → t.session ≡ s.session → t.status ≡ s.status → KeepsSession (real read clusters) s t
  keeps-of s t e q = grind arith

  pub keep_session : (s : NodeState) (at : CallNo) (c : Call) (r : Reply)
      → KeepsSession (real read clusters) s (kept_after s at c r)
  keep_session s at c r = keeps-of s (kept_after s at c r) refl refl

  pub keep_transfers : (s : NodeState) (at : CallNo) (c : Call) (r : Reply)
      → KeepsTransfers (real read clusters) s (kept_after s at c r)
  keep_transfers s at c r = record { transfers = refl; received = λ id. refl }

  pub judge_ended : (s : NodeState) (c : Call) → ended_in (judged_in read s c).0 ≡ ended_in s
  judge_ended s c = grind arith

  pub refused : (s : NodeState) (c : Call) (why : Refusal) → (judged_in read s c).1 ≡ Refused why
      → (judged_in read s c).0 ≡ s
  refused s c why e = refused-leaves s 0 (c) (verdict_for read s 0 (c)) why e

  pub sync_reply : (s : NodeState) → IsConsistent s
      → (judged_in read s Sync).1
      ≡ Synced (record { session = shown_session (real read clusters) s; ended = ended_in s; transfers = ids_of s 0 })
  sync_reply s v =
      ap (λ (a : Option SessionMark). Synced (record { session = a; ended = ended_in s; transfers = ids_of s 0 }))
      (session-shown s.session s.status v.session)

  -- each of the six calls is done or refused
  pub six_replies : (s : NodeState) (c : Call) → (c ≡ Activate) ⊎ ((c ≡ Finish) ⊎ ((c ≡ Rollback) ⊎ (c ≡ Revert)))
      → ((judged_in read s c).1 ≡ Done) ⊎ ((why : Refusal) × ((judged_in read s c).1 ≡ Refused why))
  six_replies s c h = grind (arith, nat_tests)

  pub process_replies : (s : NodeState) (id tag : ℕ)
      → ((judged_in read s (ProcessSwPackage id tag)).1 ≡ Done)
      ⊎ ((why : Refusal) × ((judged_in read s (ProcessSwPackage id tag)).1 ≡ Refused why))
  process_replies s id tag =
      done-or-refused reply.Done
      (refusal s 0 (call.ProcessSwPackage id tag) (verdict_for read s 0 (call.ProcessSwPackage id tag))) refl

  pub data_replies : (s : NodeState) (id counter : ℕ) (bytes : List ℕ)
      → ((judged_in read s (TransferData id counter bytes)).1 ≡ Done)
      ⊎ ((why : Refusal) × ((judged_in read s (TransferData id counter bytes)).1 ≡ Refused why))
  data_replies s id counter bytes =
      done-or-refused reply.Done
      (refusal s 0 (call.TransferData id counter bytes) (verdict_for read s 0 (call.TransferData id counter bytes)))
      refl

  pub exit_replies : (s : NodeState) (id : ℕ)
      → ((judged_in read s (TransferExit id)).1 ≡ Done)
      ⊎ ((why : Refusal) × ((judged_in read s (TransferExit id)).1 ≡ Refused why))
  exit_replies s id =
      done-or-refused reply.Done (refusal s 0 (call.TransferExit id) (verdict_for read s 0 (call.TransferExit id))) refl

  pub start_replies : (s : NodeState) (size : ℕ)
      → ((id : ℕ) × ((judged_in read s (TransferStart size)).1 ≡ Started id))
      ⊎ ((why : Refusal) × ((judged_in read s (TransferStart size)).1 ≡ Refused why))
  start_replies s size = go (refusal s 0 (call.TransferStart size) (verdict_for read s 0 (call.TransferStart size)))
    where
      go : (o : Option Refusal)
          → ((id : ℕ) × ((refused_or (reply.Started s.next_id) o) ≡ Started id))
          ⊎ ((why : Refusal) × ((refused_or (reply.Started s.next_id) o) ≡ Refused why))
      go None = inl (s.next_id, refl)
      go (Some why) = inr (why, refl)

  pub synced_only : (s : NodeState) (c : Call) (x : Shown) → (judged_in read s c).1 ≡ Synced x → c ≡ Sync
  synced_only s c x e = grind arith

  -- transfers don't touch the session
  pub start_session : (s : NodeState) (size : ℕ)
      → KeepsSession (real read clusters) s (judged_in read s (TransferStart size)).0
  start_session s size =
      judged-by s 0 (call.TransferStart size) (verdict_for read s 0 (call.TransferStart size))
      (λ t. KeepsSession (real read clusters) s t) (keeps-of s s refl refl) (keeps-of s _ refl refl)

  pub data_session : (s : NodeState) (id counter : ℕ) (bytes : List ℕ)
      → KeepsSession (real read clusters) s (judged_in read s (TransferData id counter bytes)).0
  data_session s id counter bytes =
      judged-by s 0 (call.TransferData id counter bytes) (verdict_for read s 0 (call.TransferData id counter bytes))
      (λ t. KeepsSession (real read clusters) s t) (keeps-of s s refl refl) (keeps-of s _ refl refl)

  pub exit_session : (s : NodeState) (id : ℕ)
      → KeepsSession (real read clusters) s (judged_in read s (TransferExit id)).0
  exit_session s id =
      judged-by s 0 (call.TransferExit id) (verdict_for read s 0 (call.TransferExit id))
      (λ t. KeepsSession (real read clusters) s t) (keeps-of s s refl refl) (keeps-of s _ refl refl)

  pub delete_session : (s : NodeState) (id : ℕ)
      → KeepsSession (real read clusters) s (judged_in read s (DeleteTransfer id)).0
  delete_session s id =
      judged-by s 0 (call.DeleteTransfer id) (verdict_for read s 0 (call.DeleteTransfer id))
      (λ t. KeepsSession (real read clusters) s t) (keeps-of s s refl refl) (keeps-of s _ refl refl)
