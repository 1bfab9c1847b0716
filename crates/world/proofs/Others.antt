-- Laws of the real node: calls of other clients, and units where client 0 has no session.
use Rattle.node_laws.proofs.NewestKept.{accepted-last}
use Rattle.node_laws.proofs.Others.{judge-leaves}
use Rattle.world.proofs.Names.{nat_tests, eqb_tells, ◌≡◌, ℕ, suc, List, Option, Some, None, false, refl, ◌∙◌, ap, arith}
use Rattle.world.proofs.Names.{◌==◌, option_and_then, slice_set, option_map_or, eqb-true, get_or-set_other, Bytes, Call}
use Rattle.world.proofs.Names.{Cluster, Kept, NodeState, Session, of_client, Verdict, judge, reply_to, after_call}
use Rattle.world.proofs.Names.{accepted, Reading, verdict_for, Done as NodeDone, [], ◌∷◌, ◌++◌, length, Bool, true, sym}
use Rattle.world.proofs.Names.{subst, ◌||◌, not, is_none, find, map, filter, if◌then◌else◌, AllByRecursion, append-nil}
use Rattle.world.proofs.Names.{filter-append, find-append, InvalidTransferId, OperationNotPermitted, Transferred}
use Rattle.world.proofs.Names.{BeingProcessed, Processed, Status, CleaningUp, Transfer, some_passes, is_in, led_by}
use Rattle.world.proofs.Names.{begin_processing, stop_processing, is_of, transfer_of, header_of, parts_read, grown}
use Rattle.world.proofs.Names.{in_phase, started, with_block, exited, deleted, refusal, unit_of, clean_up_unit}
use Rattle.world.proofs.Names.{IsConsistent, ChangesAreDue, IsPlannedWhole, id_in_processing, numbers_rise}
use Rattle.world.proofs.Rules.{KeepsSession, KeepsTransfers}
use Rattle.world.proofs.Instance.{ForeignCall, zero_no, last_in, kept_in, tag_if, mine_in, ended_in, foreign_in, real}
use Rattle.world.proofs.Instance.{unit_in}
use Rattle.node_laws.proofs.KeptProcessing.{names-kept}
use Rattle.world.proofs.Basics.{judged-by, keeps-of, not-refused}
use Rattle.world.proofs.Sessions.{mine-some, session-there}
use Rattle.world.proofs.TransferLaws.{unit-is, unit_received, keeps-all, keeps-changed, data-rest}
use Rattle.std.proofs.lemmas.Bool.{eq-eqb}
use Rattle.node_laws.proofs.Lists.{found-is, only, each-imp, each-both}
use Rattle.pm_types.specs.declared.calls.Call.TheVariants as call

-- a numbered call leaves the state, or is judged and kept
pub foreign-cases : (read : Reading) (s : NodeState) (f : ForeignCall) (P : NodeState → Type 0) → P s
    → P (after_call s (suc f.other) f.at f.call (verdict_for read s (suc f.other) f.call)
    (reply_to s (suc f.other) f.call (verdict_for read s (suc f.other) f.call))) → P (foreign_in read s f)
foreign-cases read s f P here there = grind arith

-- what no call touches
accepted-ended : (s : NodeState) (client : ℕ) (c : Call) (v : Verdict) → (accepted s client c v).ended ≡ s.ended
accepted-ended s client x v = grind arith

-- client 0's last number and end stay
pub foreign_last : (read : Reading) (s : NodeState) (f : ForeignCall)
    → (last_in (foreign_in read s f) ≡ last_in s) × (kept_in (foreign_in read s f) ≡ kept_in s)
    × (ended_in (foreign_in read s f) ≡ ended_in s)
foreign_last read s f =
    foreign-cases read s f P (refl, refl, refl)
    (let l = judged-by s (suc f.other) f.call (verdict_for read s (suc f.other) f.call) (λ t. t.last ≡ s.last) refl
    (accepted-last s (suc f.other) f.call (verdict_for read s (suc f.other) f.call)) in
    let e = judged-by s (suc f.other) f.call (verdict_for read s (suc f.other) f.call) (λ t. t.ended ≡ s.ended) refl
    (accepted-ended s (suc f.other) f.call (verdict_for read s (suc f.other) f.call)) in
    let kept : Kept = record {
      no = f.at;
      reply = reply_to s (suc f.other) f.call
          (verdict_for read s (suc f.other) f.call);
    } in
    let other : (l' : List (Option Kept))
    → of_client (slice_set l' (suc f.other) (Some kept)) 0
    ≡ of_client l' 0 = λ l'. get_or-set_other l' (suc f.other) 0 (Some kept) None (λ q. omega (arith, q)) in (
      ap (λ o. option_map_or (λ (k : Kept). k.no) o zero_no)
          (other (judge s (suc f.other) f.call (verdict_for read s (suc f.other) f.call)).0.last
          ∙ ap (λ l'. of_client l' 0) l),
      ap (λ o. option_map_or (λ (k : Kept). k.reply) o NodeDone)
          (other (judge s (suc f.other) f.call (verdict_for read s (suc f.other) f.call)).0.last
          ∙ ap (λ l'. of_client l' 0) l),
      ap (λ l'. of_client l' 0) e,
    ))
  where
    P : NodeState → Type 0
    P t = (last_in t ≡ last_in s) × (kept_in t ≡ kept_in s) × (ended_in t ≡ ended_in s)

pub foreign_session : (read : Reading) (clusters : List (Cluster Bytes)) (s : NodeState) (f : ForeignCall) (tag : ℕ)
    → mine_in s ≡ Some tag → KeepsSession (real read clusters) s (foreign_in read s f)
foreign_session read clusters s f tag mine =
    grind (
      arith,
      mine-some,
      eqb-true,
      judge-leaves,
      foreign-cases,
      keeps-of,
      eqb_tells,
      verdict_for,
      real,
      after_call,
      reply_to,
    )

-- no call of another client makes a session of client 0
abbrev mine-of : Option Session → Option ℕ
mine-of o = option_and_then (λ (x : Session). tag_if (x.owner == 0) x.tag) o

pub foreign_none : (read : Reading) (s : NodeState) (f : ForeignCall) → mine_in s ≡ None
    → mine_in (foreign_in read s f) ≡ None
foreign_none read s f e = grind (arith, nat_tests)

-- Laws of the real node: client 0's transfers under calls of others, and units where client 0 has no session.
-- each transfer of a found id is the found client's
unique : (c id : ℕ) (ts : List Transfer) (t : Transfer) → numbers_rise (map (λ (y : Transfer). y.header.id) ts) ≡ true
    → find (λ (y : Transfer). is_of c id y.header) ts ≡ Some t
    → AllByRecursion (λ (y : Transfer). (y.header.id == id) ≡ true → (y.header.client == c) ≡ true) ts
unique c id ts t r e =
    each-imp _ _ (λ y same q. let own = found-is c id ts t e in
    eq-eqb _ _ (ap (λ (z : Transfer). z.header.client) (same q) ∙ own.1)) ts
    (only c id ts t r e)

-- a change that leaves client 0's transfers
pub record Leaves0 (g : Transfer → Transfer) (t : Transfer) : Type 0 where
  pub client : (g t).header.client ≡ t.header.client
  pub own : (t.header.client == 0) ≡ true → g t ≡ t

ids-left : (g : Transfer → Transfer) (ts : List Transfer) → AllByRecursion (λ t. Leaves0 g t) ts
    → map (λ (t : Transfer). t.header.id) (filter (λ (t : Transfer). t.header.client == 0) (map g ts))
    ≡ map (λ (t : Transfer). t.header.id) (filter (λ (t : Transfer). t.header.client == 0) ts)
ids-left g [] h = refl
ids-left g (t ∷ ts) h = grind (arith, ids-left g ts h.1)

found-left : (j : ℕ) (g : Transfer → Transfer) (ts : List Transfer) → AllByRecursion (λ t. Leaves0 g t) ts
    → find (λ (t : Transfer). is_of 0 j t.header) (map g ts) ≡ find (λ (t : Transfer). is_of 0 j t.header) ts
found-left j g [] h = refl
found-left j g (t ∷ ts) h = grind (arith, found-left j g ts h.1)

-- a filter that keeps client 0's transfers
ids-kept : (p : Transfer → Bool) (ts : List Transfer)
    → AllByRecursion (λ (t : Transfer). (t.header.client == 0) ≡ true → p t ≡ true) ts
    → filter (λ (t : Transfer). t.header.client == 0) (filter p ts) ≡ filter (λ (t : Transfer). t.header.client == 0) ts
ids-kept p [] h = refl
ids-kept p (t ∷ ts) h = grind (arith, ids-kept p ts h.1)

found-kept : (j : ℕ) (p : Transfer → Bool) (ts : List Transfer)
    → AllByRecursion (λ (t : Transfer). (t.header.client == 0) ≡ true → p t ≡ true) ts
    → find (λ (t : Transfer). is_of 0 j t.header) (filter p ts) ≡ find (λ (t : Transfer). is_of 0 j t.header) ts
found-kept j p [] h = refl
found-kept j p (t ∷ ts) h = grind (arith, found-kept j p ts h.1)

module _ (read : Reading) (clusters : List (Cluster Bytes)) where
  keeps-left : (s t : NodeState) (g : Transfer → Transfer) → AllByRecursion (λ y. Leaves0 g y) s.transfers
      → t.transfers ≡ map g s.transfers → KeepsTransfers (real read clusters) s t
  keeps-left s t g h e =
      record {
        transfers =
            ap (λ l. map (λ (y : Transfer). y.header.id) (filter (λ (y : Transfer). y.header.client == 0) l)) e
            ∙ ids-left g s.transfers h;
        received = λ j.
            ap (λ l. option_map_or (λ (y : Transfer). y.bytes) (find (λ (y : Transfer). is_of 0 j y.header) l) []) e
            ∙ ap (λ o. option_map_or (λ (y : Transfer). y.bytes) o []) (found-left j g s.transfers h);
      }

  keeps-filter : (s t : NodeState) (p : Transfer → Bool)
      → AllByRecursion (λ (y : Transfer). (y.header.client == 0) ≡ true → p y ≡ true) s.transfers
      → t.transfers ≡ filter p s.transfers → KeepsTransfers (real read clusters) s t
  keeps-filter s t p h e =
      record {
        transfers =
            ap (λ l. map (λ (y : Transfer). y.header.id) (filter (λ (y : Transfer). y.header.client == 0) l)) e
            ∙ ap (λ l. map (λ (y : Transfer). y.header.id) l) (ids-kept p s.transfers h);
        received = λ j.
            ap (λ l. option_map_or (λ (y : Transfer). y.bytes) (find (λ (y : Transfer). is_of 0 j y.header) l) []) e
            ∙ ap (λ o. option_map_or (λ (y : Transfer). y.bytes) o []) (found-kept j p s.transfers h);
      }

  -- the end of another's session takes none of client 0's transfers
  clean-others : (s : NodeState) (x : Session) → IsConsistent s → s.session ≡ Some x → (x.owner == 0) ≡ false
      → s.status ≡ CleaningUp → KeepsTransfers (real read clusters) s (clean_up_unit s x)
  clean-others s x v e owner st =
      keeps-filter s (clean_up_unit s x) (λ t. not (is_in BeingProcessed t.header || is_in Processed t.header))
      (each-both (λ t. IsPlannedWhole x t t.header.phase) (λ t. is_in BeingProcessed t.header
      ≡ some_passes (λ (i : ℕ). i == t.header.id) (id_in_processing s)) (λ (t : Transfer). (t.header.client == 0)
      ≡ true → not (is_in BeingProcessed t.header || is_in Processed t.header) ≡ true)
      each s.transfers (subst (λ o. ChangesAreDue s o) e v.changes).whole v.processing.each) refl
    where
      each : (t : Transfer) → IsPlannedWhole x t t.header.phase
          → is_in BeingProcessed t.header ≡ some_passes (λ (i : ℕ). i == t.header.id) (id_in_processing s)
          → (t.header.client == 0) ≡ true → not (is_in BeingProcessed t.header || is_in Processed t.header) ≡ true
      each t whole being own = grind arith

  -- a unit without a session of client 0
  not-mine : (s : NodeState) (x : Session) → mine_in s ≡ None → s.session ≡ Some x → (x.owner == 0) ≡ false
  not-mine s x none e = grind arith

  left-alone : (s : NodeState) (passed : Bool) → IsConsistent s → mine_in s ≡ None → (st : Status) → s.status ≡ st
      → KeepsTransfers (real read clusters) s (unit_in s passed)
  left-alone s passed v none CleaningUp r =
      let x = session-there s v (λ q. cc (q, r)) in
      let k = clean-others s x.0 v x.1 (not-mine s x.0 none x.1) r in
      subst (λ t. KeepsTransfers (real read clusters) s t)
      (sym (unit-is s passed x.0 (clean_up_unit s x.0) x.1 (ap (λ y. unit_of s x.0 passed y) r)))
      (record { transfers = k.transfers; received = k.received })
  left-alone s passed v none _ r = unit_received read clusters s passed (λ q. cc (q, r))

  pub unit_none : (s : NodeState) (passed : Bool) → IsConsistent s → mine_in s ≡ None
      → (mine_in (unit_in s passed) ≡ None) × (ended_in (unit_in s passed) ≡ ended_in s)
      × KeepsTransfers (real read clusters) s (unit_in s passed)
  unit_none s passed v none = (grind arith, grind (arith, get_or-set_other), left-alone s passed v none s.status refl)

  -- a call of another client
  then-led : (s t : NodeState) (c : Call) → KeepsTransfers (real read clusters) s t
      → KeepsTransfers (real read clusters) s (led_by c t)
  then-led s t c k = grind arith

  -- a found transfer of another client is none of client 0's
  others : (s : NodeState) (a id : ℕ) → IsConsistent s → is_none (header_of (transfer_of s (suc a) id)) ≡ false
      → AllByRecursion (λ (y : Transfer). (y.header.id == id) ≡ true → (y.header.client == suc a) ≡ true) s.transfers
  others s a id v f = grind (arith, unique)

  judged-if : (s : NodeState) (client : ℕ) (c : Call) (w : Verdict) (P : NodeState → Type 0) → P s
      → (refusal s client c w ≡ None → P (accepted s client c w)) → P (judge s client c w).0
  judged-if s client c w P here there = grind arith

  data-others : (s : NodeState) (a id counter : ℕ) (bytes : List ℕ) (w : Verdict) → IsConsistent s
      → KeepsTransfers (real read clusters) s (judge s (suc a) (call.TransferData id counter bytes) w).0
  data-others s a id counter bytes w v =
      judged-if s (suc a) (call.TransferData id counter bytes) w (λ t. KeepsTransfers (real read clusters) s t)
      (keeps-all read clusters s s refl) (λ q.
      keeps-left s (with_block s id bytes)
      (λ t. if t.header.id == id then record t { header = grown (length bytes) t.header; bytes = t.bytes ++ bytes }
      else t)
      (each-imp (λ (y : Transfer). (y.header.id == id) ≡ true
      → (y.header.client == suc a) ≡ true)
      (λ y. Leaves0
      (λ t. if t.header.id == id then record t { header = grown (length bytes) t.header; bytes = t.bytes ++ bytes }
      else t) y) each s.transfers
      (others s a id v
      (not-refused (is_none (header_of (transfer_of s (suc a) id)), InvalidTransferId)
      (data-rest (header_of (transfer_of s (suc a) id)) counter (length bytes)) q).0)) refl)
    where
      each : (t : Transfer) → ((t.header.id == id) ≡ true → (t.header.client == suc a) ≡ true)
          → Leaves0 (λ y. if y.header.id == id then record y {
            header = grown (length bytes) y.header;
            bytes = y.bytes
                ++ bytes;
          } else y) t
      each t h = grind (arith, grown)

  delete-others : (s : NodeState) (a id : ℕ) (w : Verdict) → IsConsistent s
      → KeepsTransfers (real read clusters) s (judge s (suc a) (call.DeleteTransfer id) w).0
  delete-others s a id w v =
      judged-if s (suc a) (call.DeleteTransfer id) w (λ t. KeepsTransfers (real read clusters) s t)
      (keeps-all read clusters s s refl) (λ q.
      keeps-filter s (deleted s id) (λ t. not (t.header.id == id))
      (each-imp (λ (y : Transfer). (y.header.id == id) ≡ true
      → (y.header.client == suc a) ≡ true) (λ (y : Transfer). (y.header.client == 0) ≡ true
      → not (y.header.id == id) ≡ true) each s.transfers
      (others s a id v
      (not-refused (is_none (header_of (transfer_of s (suc a) id)), InvalidTransferId)
      ((
        some_passes (λ h. is_in BeingProcessed h || is_in Processed h) (header_of (transfer_of s (suc a) id)),
        OperationNotPermitted,
      ) ∷ []) q).0)) refl)
    where
      each : (t : Transfer) → ((t.header.id == id) ≡ true → (t.header.client == suc a) ≡ true)
          → (t.header.client == 0) ≡ true → not (t.header.id == id) ≡ true
      each t h own = grind (arith, not)

  start-others : (s : NodeState) (a size : ℕ) → KeepsTransfers (real read clusters) s (started s (suc a) size)
  start-others s a size = grind (arith, filter-append, append-nil, find-append)

  judged-others : (s : NodeState) (a : ℕ) (c : Call) (w : Verdict) → IsConsistent s
      → KeepsTransfers (real read clusters) s (judge s (suc a) c w).0
  judged-others s a call.Sync w v = keeps-all read clusters s s refl
  judged-others s a (call.TransferStart size) w v =
      judged-by s (suc a) (call.TransferStart size) w (λ t. KeepsTransfers (real read clusters) s t)
      (keeps-all read clusters s s refl) (start-others s a size)
  judged-others s a (call.TransferData id counter bytes) w v = data-others s a id counter bytes w v
  judged-others s a (call.TransferExit id) w v =
      judged-by s (suc a) (call.TransferExit id) w (λ t. KeepsTransfers (real read clusters) s t)
      (keeps-all read clusters s s refl)
      (keeps-changed read clusters s (exited s id w) id
      (λ t. record t { header = in_phase Transferred t.header; parts = parts_read w })
      (record { id = λ t. refl; client = λ t. refl }) (λ t. refl) refl)
  judged-others s a (call.DeleteTransfer id) w v = delete-others s a id w v
  judged-others s a (call.ProcessSwPackage id tag) w v =
      judged-by s (suc a) (call.ProcessSwPackage id tag) w (λ t. KeepsTransfers (real read clusters) s t)
      (keeps-all read clusters s s refl)
      (then-led s (begin_processing s (suc a) id tag) (call.ProcessSwPackage id tag)
      (keeps-changed read clusters s (begin_processing s (suc a) id tag) id
      (λ t. record t { header = in_phase BeingProcessed t.header }) (names-kept BeingProcessed) (λ t. refl) refl))
  judged-others s a (call.Cancel id) w v =
      judged-by s (suc a) (call.Cancel id) w (λ t. KeepsTransfers (real read clusters) s t)
      (keeps-all read clusters s s refl)
      (then-led s (stop_processing s id) (call.Cancel id)
      (keeps-changed read clusters s (stop_processing s id) id
      (λ t. record t { header = in_phase Transferred t.header }) (names-kept Transferred) (λ t. refl) refl))
  judged-others s a x w v =
      judged-by s (suc a) x w (λ t. KeepsTransfers (real read clusters) s t) (keeps-all read clusters s s refl)
      (then-led s s x (keeps-all read clusters s s refl))

  pub foreign_transfers : (s : NodeState) (f : ForeignCall) → IsConsistent s
      → KeepsTransfers (real read clusters) s (foreign_in read s f)
  foreign_transfers s f v =
      foreign-cases read s f (λ t. KeepsTransfers (real read clusters) s t) (keeps-all read clusters s s refl)
      (let k = judged-others s f.other f.call (verdict_for read s (suc f.other) f.call) v in
      record { transfers = k.transfers; received = k.received })
