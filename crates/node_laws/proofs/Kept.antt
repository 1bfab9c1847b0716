-- A reply that is kept and an entry with its line leave a state fit.
use Rattle.node_laws.proofs.Names.{◌≡◌, refl, ℕ, zero, suc, ◌+◌, ◌-◌, ◌≤◌, true, List, [], ◌∷◌, ◌++◌, length, drop}
use Rattle.node_laws.proofs.Names.{length-append, length-drop, add-zero, arith, ◌==◌, min, Option, Some, both_true}
use Rattle.node_laws.proofs.Names.{length-set, and_parts, eq-eqb, line_limit, CallNo, Happened, Line, Reply, Kept}
use Rattle.node_laws.proofs.Names.{NodeState, newest, with_entry, with_kept, Reading, places_from, IsFit, subst, None}
use Rattle.node_laws.proofs.Names.{Bytes, Cluster, Session, IsInstalled, sym, ap, ◌<◌, Bool, false, nat_lt, option_map}
use Rattle.node_laws.proofs.Names.{option_and_then, unwrap_or, if◌then◌else◌, Ordering, Greater, client_limit, Call}
use Rattle.node_laws.proofs.Names.{Sync, TransferStart, TransferData, TransferExit, DeleteTransfer, ProcessSwPackage}
use Rattle.node_laws.proofs.Names.{Activate, Finish, Rollback, RevertProcessedSwPackages, Cancel, Entry, Numbered}
use Rattle.node_laws.proofs.Names.{UnitDone, UnitLine, Refusal, Refused, Status, Processing, Activating}
use Rattle.node_laws.proofs.Names.{Verifying, RollingBack, CleaningUp, of_client, all_units, parts_of, refusal}
use Rattle.node_laws.proofs.Names.{accepted, acceptance, refused_or, reply_to, after_reply, judge, after_call, executed}
use Rattle.node_laws.proofs.Names.{by_order, by_last, call_no_cmp, step, unit_of, process_unit, processed, parts_of_id}
use Rattle.node_laws.proofs.Names.{verdict_for, worked, formatted, after_entry, state_after, IsNext, IsLegal, IsReading}
use Rattle.node_laws.proofs.Names.{KeepsFit}
use Rattle.node_laws.proofs.Sessions.{base-of, Busy, busy-of}
use Rattle.node_laws.proofs.Legal.{answered}
use Rattle.node_laws.proofs.Lists.{both-none}
use Rattle.node_laws.proofs.Quiet.{processes}
use Rattle.node_laws.proofs.KeptTransfers.{start-fit, data-fit, exit-fit, delete-fit}
use Rattle.node_laws.proofs.KeptSessions.{at-status, led-fit, activates, finishes, rolls_back, reverts, activate-fit}
use Rattle.node_laws.proofs.KeptSessions.{verify-fit, roll_back-fit, clean_up-fit}
use Rattle.node_laws.proofs.KeptProcessing.{more-fit, last-fit}
use Rattle.node_laws.proofs.KeptPackages.{process-fit, cancel-fit}

places-append : (place : ℕ) (ls : List Line) (l : Line) → places_from place ls ≡ true → l.place ≡ place + length ls
    → places_from place (ls ++ l ∷ []) ≡ true
places-append place [] l h e = both_true (eq-eqb _ _ (omega (arith, e))) refl
places-append place (m ∷ ls) l h e =
    let parts = and_parts (m.place == place) (places_from (place + 1) ls) h in
    both_true parts.0 (places-append (place + 1) ls l parts.1 (omega (arith, e)))

places-drop : (place k : ℕ) (ls : List Line) → k ≤ length ls → places_from place ls ≡ true
    → places_from (place + k) (drop k ls) ≡ true
places-drop place zero ls h p = rw (add-zero place) p
places-drop place (suc k) [] h p = refl
places-drop place (suc k) (l ∷ ls) h p =
    let parts = and_parts (l.place == place) (places_from (place + 1) ls) p in
    let e : place + suc k ≡ place + 1 + k = omega arith in
    rw e (places-drop (place + 1) k ls (omega (arith, h)) parts.1)

-- the lines are the newest, in their places
record InPlace (entries : ℕ) (ls : List Line) : Type 0 where
  count : length ls ≡ min entries line_limit
  places : places_from (entries - length ls) ls ≡ true

lines-kept : (entries : ℕ) (ls : List Line) (h : Happened) → InPlace entries ls
    → InPlace (entries + 1) (newest (ls ++ record { place = entries; happened = h } ∷ []))
lines-kept entries ls h v =
    let more = ls ++ record { place = entries; happened = h } ∷ [] in
    let n : length more ≡ length ls + 1 = length-append ls _ in
    let k = length more - line_limit in
    let d : length (newest more) ≡ length more - k = length-drop k more in
    let e : entries + 1 - length (newest more) ≡ entries - length ls + k = omega (arith, n, d, v.count) in
    record {
      count = omega (arith, n, d, v.count);
      places =
          rw e (places-drop (entries - length ls) k more (omega arith)
          (places-append (entries - length ls) ls _ v.places (omega (arith, v.count))));
    }

-- other numbers and replies that are kept, and other entries and lines
noted-fit : (read : Reading) (s : NodeState) (last : List (Option Kept)) (entries : ℕ) (lines : List Line)
    → IsFit read s → length last ≡ length s.last → InPlace entries lines
    → IsFit read (record s { last = last; entries = entries; lines = lines })
noted-fit read s last entries lines fit same place = grind arith

-- the lines of a fit state are in their places
in-place : (read : Reading) (s : NodeState) → IsFit read s → InPlace s.entries s.lines
in-place read s fit = record { count = fit.consistent.limits.lines; places = fit.consistent.limits.places }

pub kept-fit : (read : Reading) (s : NodeState) (client : ℕ) (at : CallNo) (r : Reply) → IsFit read s
    → IsFit read (with_kept client at r s)
kept-fit read s client at r fit =
    noted-fit read s _ s.entries s.lines fit (length-set s.last client (Some (record { no = at; reply = r })))
    (in-place read s fit)

pub entry-fit : (read : Reading) (h : Happened) (s : NodeState) → IsFit read s → IsFit read (with_entry h s)
entry-fit read h s fit =
    noted-fit read s s.last (s.entries + 1) _ fit refl (lines-kept s.entries s.lines h (in-place read s fit))

-- A node without a session stays fit with other clusters.
-- what runs where a node without a session is opened with these clusters
abbrev pub opened_by : Option Session → List (Cluster Bytes) → List (Cluster Bytes) → List (Cluster Bytes)
opened_by None clusters running = clusters
opened_by (Some x) clusters running = running

pub opened-fit : (read : Reading) (s : NodeState) (clusters : List (Cluster Bytes)) → IsInstalled clusters
    → IsFit read s → IsFit read (record s { running = opened_by s.session clusters s.running })
opened-fit read s clusters installed fit = grind arith

-- What a node does leaves its state fit.
-- a formatted node with clusters in order, of at most 16 names
formatted-fit : (read : Reading) (clusters : List (Cluster Bytes)) → IsInstalled clusters
    → IsFit read (formatted clusters)
formatted-fit read clusters installed = grind arith

module _ (read : Reading) (reading : IsReading read) where
  -- a call that isn't refused
  accepted-fit : (s : NodeState) (client : ℕ) (c : Call) → client < client_limit → IsFit read s
      → refusal s client c (verdict_for read s client c) ≡ None
      → IsFit read (accepted s client c (verdict_for read s client c))
  accepted-fit s client Sync low fit r = fit
  accepted-fit s client (TransferStart size) low fit r = start-fit read s client size low fit r
  accepted-fit s client (TransferData id counter bytes) low fit r = data-fit read s client id counter bytes fit r
  accepted-fit s client (TransferExit id) low fit r = exit-fit read s client id _ reading fit refl r
  accepted-fit s client (DeleteTransfer id) low fit r = delete-fit read s client id fit r
  accepted-fit s client (ProcessSwPackage id tag) low fit r = process-fit read s client id tag low fit r
  accepted-fit s client Activate low fit r = led-fit read s client activates fit (both-none _ _ r).0
  accepted-fit s client Finish low fit r = led-fit read s client finishes fit r
  accepted-fit s client Rollback low fit r = led-fit read s client rolls_back fit r
  accepted-fit s client RevertProcessedSwPackages low fit r = led-fit read s client reverts fit r
  accepted-fit s client (Cancel id) low fit r = cancel-fit read s client id fit r

  judge-fit : (s : NodeState) (client : ℕ) (c : Call) → client < client_limit → IsFit read s
      → IsFit read (judge s client c (verdict_for read s client c)).0
  judge-fit s client c low fit = go (refusal s client c (verdict_for read s client c)) refl
    where
      done : (r : Reply) → IsFit read (accepted s client c (verdict_for read s client c))
          → IsFit read (after_reply s client c (verdict_for read s client c) r)
      done (Refused why) h = fit
      done _ h = h

      go : (o : Option Refusal) → refusal s client c (verdict_for read s client c) ≡ o
          → IsFit read (after_reply s client c (verdict_for read s client c) (refused_or (acceptance s client c) o))
      go None e = done (acceptance s client c) (accepted-fit s client c low fit e)
      go (Some why) e = fit

  executed-fit : (s : NodeState) (client : ℕ) (at : CallNo) (c : Call) → client < client_limit → IsFit read s
      → IsFit read (executed s client at c (verdict_for read s client c)).0
  executed-fit s client at c low fit =
      entry-fit read _ _
      (kept-fit read (judge s client c (verdict_for read s client c)).0 client at
      (reply_to s client c (verdict_for read s client c)) (judge-fit s client c low fit))

  step-fit : (s : NodeState) (client : ℕ) (at : CallNo) (c : Call) → client < client_limit → IsFit read s
      → IsFit read (step s client at c (verdict_for read s client c)).0
  step-fit s client at c low fit = by (of_client s.last client)
    where
      done : IsFit read (executed s client at c (verdict_for read s client c)).0
      done = executed-fit s client at c low fit

      order : (kept : Kept) (o : Ordering)
          → IsFit read (by_order s (executed s client at c (verdict_for read s client c)) kept o).0
      order kept Greater = done
      order kept _ = fit

      by : (o : Option Kept) → IsFit read (by_last s (executed s client at c (verdict_for read s client c)) at o).0
      by None = done
      by (Some kept) = order kept (call_no_cmp at kept.no)

  -- a unit of a session
  session-unit : (s : NodeState) (x : Session) (passed : Bool) → IsFit read s → s.session ≡ Some x → (st : Status)
      → s.status ≡ st → (t : NodeState) → unit_of s x passed st ≡ Some t → IsFit read t
  session-unit s x passed fit e st q t k = go st q (at-status s x st q (busy-of s x e fit.consistent)) k
    where
      is : (u : NodeState) → IsFit read u → Some u ≡ Some t → IsFit read t
      is u h m = let same : u ≡ t = cc m in subst (IsFit read) same h

      packaged : s.status ≡ Processing → (id : ℕ) → x.processing ≡ Some id
          → Busy (record s { status = Processing }) (record x { processing = Some id }) → (b : Bool)
          → nat_lt (x.units_done + 1) (all_units (parts_of_id s x id)) ≡ b
          → IsFit read
          (if b then record s { session = Some (record x { units_done = x.units_done + 1 }) } else processed s x id
          (parts_of_id s x id))
      packaged p id m w true more =
          subst (λ st. IsFit read
          (record s { status = st; session = Some (record x { units_done = x.units_done + 1 }) })) (sym p)
          (subst (λ o. IsFit read
          (record s {
            status = Processing;
            session = Some
                (record x { processing = o; units_done = x.units_done + 1 });
          })) (sym m)
          (more-fit read s x id fit w more))
      packaged p id m w false more =
          let u = processes s.next_id x.owner id s.transfers _ (base-of s fit.consistent).held w.each w.unfinished in
          subst (λ ps. IsFit read (processed s x id ps)) (sym (ap parts_of u.is))
          (last-fit read s x id u.transfer fit w u.is)

      processing : s.status ≡ Processing → Busy (record s { status = Processing }) x → (o : Option ℕ) → x.processing ≡ o
          → option_and_then (λ id. Some (process_unit s x id)) o ≡ Some t → IsFit read t
      processing p v None m j = absurd (cc)
      processing p v (Some id) m j =
          is _ (packaged p id m (subst (λ o. Busy (record s { status = Processing }) (record x { processing = o })) m v)
          (nat_lt (x.units_done + 1) (all_units (parts_of_id s x id))) refl) j

      go : (st : Status) → s.status ≡ st → Busy (record s { status = st }) x → unit_of s x passed st ≡ Some t
          → IsFit read t
      go Processing p v j = processing p v x.processing refl j
      go Activating p v j = is _ (activate-fit read s x fit v) j
      go Verifying p v j = is _ (verify-fit read s x passed fit e v) j
      go RollingBack p v j = is _ (roll_back-fit read s x fit e v) j
      go CleaningUp p v j = is _ (clean_up-fit read s x fit v) j
      go _ p v j = absurd (cc)

  unit-fit : (s : NodeState) (passed : Bool) → IsFit read s → IsFit read (unwrap_or (worked s passed) s)
  unit-fit s passed fit = go s.session refl
    where
      one : (x : Session) → s.session ≡ Some x → (r : Option NodeState) → unit_of s x passed s.status ≡ r
          → IsFit read (unwrap_or (option_map (λ (t : NodeState). with_entry (UnitLine t.status) t) r) s)
      one x e None q = fit
      one x e (Some t) q = entry-fit read (UnitLine t.status) t (session-unit s x passed fit e s.status refl t q)

      go : (o : Option Session) → s.session ≡ o
          → IsFit read
          (unwrap_or (option_map (λ (t : NodeState). with_entry (UnitLine t.status) t)
          (option_and_then (λ x. unit_of s x passed s.status) o)) s)
      go None e = fit
      go (Some x) e = one x e (unit_of s x passed s.status) refl

  -- an entry of a legal history
  next-fit : (s : NodeState) (entry : Entry) → IsFit read s → IsNext read s entry
      → IsFit read (after_entry read s entry)
  next-fit s (Numbered client at c r) fit next =
      subst (λ y. IsFit read (after_call s client at c (verdict_for read s client c) y))
      (sym (answered read s client at c r next.1)) (executed-fit s client at c next.0 fit)
  next-fit s (UnitDone passed after) fit next = unit-fit s passed fit

  history-fit : (s : NodeState) (entries : List Entry) → IsFit read s → IsLegal read s entries
      → IsFit read (state_after read s entries)
  history-fit s [] fit legal = fit
  history-fit s (entry ∷ entries) fit legal =
      history-fit (after_entry read s entry) entries (next-fit s entry fit legal.0) legal.1

  pub keeps-fit : KeepsFit read
  keeps-fit =
      record {
        formatted = formatted-fit read;
        judge = judge-fit;
        step = step-fit;
        unit = unit-fit;
        history =
            history-fit;
      }
