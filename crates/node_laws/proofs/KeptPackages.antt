-- The call that takes a package into processing, and the call that stops it, leave a state fit.
use Rattle.node_laws.proofs.Names.{◌≡◌, ◌⊎◌, inl, inr, refl, sym, subst, ap, ◌∙◌, ℕ, ◌<◌, ◌≤◌, Bool, true, false, List}
use Rattle.node_laws.proofs.Names.{[], ◌∷◌, ◌++◌, length, arith, ◌==◌, ◌&&◌, ◌||◌, not, nat_lt, is_some, is_none}
use Rattle.node_laws.proofs.Names.{if◌then◌else◌, map, unwrap_or, option_map, IsSomeAnd, Option, Some, None, option_or}
use Rattle.node_laws.proofs.Names.{option_map_or, AllByRecursion, eqb-true, eq-eqb, lt-ltb, map-append, append-nil}
use Rattle.node_laws.proofs.Names.{client_limit, cluster_limit, all_differ, names_rise, Bytes, ProcessSwPackage, Cancel}
use Rattle.node_laws.proofs.Names.{Change, Part, Refusal, OperationNotPermitted, InvalidTransferId, Outcome, Old, Phase}
use Rattle.node_laws.proofs.Names.{Transferred, BeingProcessed, Processed, Status, Idle, Ready, Processing, CleaningUp}
use Rattle.node_laws.proofs.Names.{NodeState, Session, Transfer, is_in, has_status, some_passes, phase_code}
use Rattle.node_laws.proofs.Names.{first_refusal, cluster_of, all_units, To, Resume, status_table, session_refusals}
use Rattle.node_laws.proofs.Names.{process_refusal, cancel_refusals, parts_refusal, is_wrong_tag, changes_in, applies}
use Rattle.node_laws.proofs.Names.{names_among, new_session, begin_processing, stop_processing, arrive, led_by, is_of}
use Rattle.node_laws.proofs.Names.{transfer_of, header_of, parts_of, Reading, SessionIsDue, should_run}
use Rattle.node_laws.proofs.Names.{LeavesOneToVerify, IsWholeFromTransferred, IsPlannedWhole, is_processed, parts_in}
use Rattle.node_laws.proofs.Names.{may_plan_nothing, numbers_rise, IsFit}
use Rattle.node_laws.proofs.Lists.{each-append, each-first, each-imp, found-has, ids, found, found-is, changed}
use Rattle.node_laws.proofs.Lists.{each-changed, all-changed, any-changed, found-changed, rows-clear, both-none}
use Rattle.node_laws.proofs.Lists.{neither, not-false, some-transfer, some-header, is-transferred, is-processing}
use Rattle.node_laws.proofs.NameLists.{Within, within-self, within-left, within-right, fewer-within, names_of}
use Rattle.node_laws.proofs.NameLists.{changed_names, names-of-parts, differ-first, differ-kept, each-applies, few-kept}
use Rattle.node_laws.proofs.Sessions.{Base, Busy, Free, InProcessing, base-of, busy-of, free-of, busy-is}
use Rattle.node_laws.proofs.KeptSessions.{or-true, at-status, both-in, left-in, changes-in, all_of, clusters-in}
use Rattle.node_laws.proofs.KeptSessions.{parts-in, all-in, names-fewer}
use Rattle.node_laws.proofs.KeptProcessing.{rephased, names-kept, late_transferred, being_processed, read-rephased}
use Rattle.node_laws.proofs.KeptProcessing.{base-rephased, in-other, some-units}

-- a session that has nothing in processing, or is about to begin
record Waits (s : NodeState) (x : Session) : Type 0 where
  tag : (x.tag == 0) ≡ not (x.owner == 0)
  runs : s.running ≡ x.saved
  differ : all_differ (changed_names x.changes) ≡ true
  whole : AllByRecursion (λ t. IsPlannedWhole x t t.header.phase) s.transfers
  processed : AllByRecursion (λ change. is_processed s.transfers change.transfer ≡ true) x.changes
  applies : AllByRecursion (λ part. applies part x.saved ≡ true) (map (λ change. change.part) x.changes)
  each : InProcessing None s.transfers
  outcome : is_some x.outcome ≡ false
  names : length (names_among {E = Bytes} s.running x.changes []) ≤ cluster_limit
  saved : (names_rise (names_of x.saved) ≡ true) × (x.owner < client_limit)

-- a test of the transfers that are processed isn't changed where the transfer is processed neither before nor after
same-processed : (client id n : ℕ) (ts : List Transfer) (u : Transfer) (q : Phase) → numbers_rise (ids ts) ≡ true
    → found client id ts ≡ Some u → is_in Processed u.header ≡ false → is_in Processed (rephased q u).header ≡ false
    → is_processed ts n ≡ true → is_processed (map (changed id (rephased q)) ts) n ≡ true
same-processed client id n ts u q rise e before later h =
    any-changed _ (changed id (rephased q)) ts
    (each-changed (λ t v. ((v.header.id == n) && is_in Processed v.header)
    ≡ ((t.header.id == n) && is_in Processed t.header)) client id (rephased q) ts u rise e (λ t _. refl)
    (ap (λ b. (u.header.id == n) && b) (later ∙ sym before))) ∙ h

-- the session goes on with a package
begun-fit : (read : Reading) (s : NodeState) (x : Session) (id : ℕ) (u : Transfer) → IsFit read s → Waits s x
    → found x.owner id s.transfers ≡ Some u → u.header.phase ≡ Transferred
    → parts_refusal s.running x.changes [] u.parts ≡ None
    → IsFit read
    (record s {
      status = Processing;
      transfers = map (changed id (rephased BeingProcessed))
          s.transfers;
      session = Some (record x { processing = Some id; units_done = 0 });
    })
begun-fit read s x id u fit v e phase accepted = record {
  consistent =
      busy-is (record s { status = Processing; transfers = us }) (record x { processing = Some id; units_done = 0 })
      (base-rephased s x.owner id u Transferred BeingProcessed e phase late_transferred being_processed x Processing b)
      (record {
        due = v.tag;
        runs = v.runs;
        changes = record {
          differ = v.differ;
          whole =
              all-changed _ _ x.owner id (rephased BeingProcessed) s.transfers u b.held.rise e v.whole (λ t _ h. h)
              (λ _. tt);
          processed =
              each-imp _ _
              (λ change. same-processed x.owner id change.transfer s.transfers u BeingProcessed b.held.rise e
              (ap (λ p. phase_code p == 3) phase) refl) x.changes v.processed;
          not_empty = or-true _;
        };
        applies = record {
          differ =
              ap (λ ps. all_differ (map cluster_of ps)) same
              ∙ (ap all_differ names ∙ differ-kept s.running x.changes u.parts accepted v.differ sound.2);
          each =
              subst (AllByRecursion (λ part. applies part x.saved ≡ true)) (sym same)
              (each-append _ _ u.parts v.applies
              (subst (λ cs. AllByRecursion (λ part. applies part cs ≡ true) u.parts) v.runs
              (each-applies s.running x.changes [] u.parts accepted)));
        };
        each =
            in-other s x.owner id u Transferred BeingProcessed e phase late_transferred being_processed None (Some id)
            b.held v.each (λ t n. other-id t n) (sym (eq-eqb _ _ (sym own-id)));
        working = refl;
        unfinished = subst (λ o. IsSomeAnd o (λ t. 0 < all_units t.parts)) (sym there) (some-units u.parts sound.1);
        leaves = tt;
        outcome = v.outcome;
        names = few;
        saved = v.saved;
      });
  read_parts =
      read-rephased s x.owner id u Transferred BeingProcessed e phase late_transferred being_processed read b.held
      fit.read_parts;
}
  where
    b : Base s
    b = base-of s fit.consistent

    us : List Transfer
    us = map (changed id (rephased BeingProcessed)) s.transfers

    own-id : u.header.id ≡ id
    own-id = (found-is x.owner id s.transfers u e).0

    other-id : (t : Transfer) → (t.header.id == id) ≡ false → false ≡ (id == t.header.id)
    other-id t n = grind arith

    sound : IsWholeFromTransferred u Transferred
    sound =
        subst (IsWholeFromTransferred u) phase
        (found-has (λ t. is_of x.owner id t.header) _ s.transfers u b.held.each e).1.whole

    there : found x.owner id us ≡ Some (rephased BeingProcessed u)
    there =
        found-changed x.owner id id (rephased BeingProcessed) (names-kept BeingProcessed) s.transfers
        ∙ (ap (option_map (changed id (rephased BeingProcessed))) e
        ∙ ap (λ b. Some (if b then rephased BeingProcessed u else u)) (eq-eqb _ _ own-id))

    same : map (λ change. change.part) x.changes ++ parts_of (found x.owner id us)
        ≡ map (λ change. change.part) x.changes ++ u.parts
    same = ap (λ o. map (λ (change : Change Bytes). change.part) x.changes ++ parts_of o) there

    names : map cluster_of (map (λ change. change.part) x.changes ++ u.parts)
        ≡ changed_names x.changes ++ map cluster_of u.parts
    names =
        map-append cluster_of (map (λ (change : Change Bytes). change.part) x.changes) u.parts
        ∙ ap (λ ns. ns ++ map cluster_of u.parts) (names-of-parts x.changes)

    few : length
        (names_among {D = Bytes} (s.running ++ x.saved) []
        (map (λ change. change.part) x.changes ++ parts_of (found x.owner id us))) ≤ cluster_limit
    few =
        let changes = changed_names x.changes in
        let front = names_of s.running ++ changes in
        let all = front ++ map cluster_of u.parts in
        let running-in : Within (names_of s.running) all = within-left (names_of s.running) front
        (map cluster_of u.parts)
        (within-left (names_of s.running) (names_of s.running) changes (within-self (names_of s.running))) in
        let saved-in : Within (names_of x.saved) all = subst (λ cs. Within (names_of cs) all) v.runs running-in in
        let changes-in : Within changes all = within-left changes front (map cluster_of u.parts)
        (within-right changes (names_of s.running) changes (within-self changes)) in
        let parts-in : Within (map cluster_of u.parts) all = within-right (map cluster_of u.parts) front
        (map cluster_of u.parts) (within-self (map cluster_of u.parts)) in
        let ps = map (λ (change : Change Bytes). change.part) x.changes ++ u.parts in
        let fewer = fewer-within (all_of (s.running ++ x.saved) ps) all
        (all-in (s.running ++ x.saved) ps all (both-in s.running x.saved all running-in saved-in)
        (subst (λ ns. Within ns all) (sym names)
        (each-append _ changes (map cluster_of u.parts) changes-in parts-in))) in
        let kept = few-kept s.running x.changes [] u.parts accepted v.names in
        subst (λ ps. length (names_among {D = Bytes} (s.running ++ x.saved) [] ps) ≤ cluster_limit) (sym same)
        (omega (arith, fewer, kept))

-- a session in Ready waits for a package
ready-waits : (s : NodeState) (x : Session) → Busy (record s { status = Ready }) x → Waits s x
ready-waits s x v = grind (arith, none, few, applies, each-first)
  where
    none : (o : Option ℕ) → is_some o ≡ false → o ≡ None
    none None e = refl
    none (Some n) e = absurd (cc)

    few : length (names_among {E = Bytes} s.running x.changes []) ≤ cluster_limit
    few =
        let old = s.running ++ x.saved in
        let all = all_of old (parts_in s x) in
        let fewer = fewer-within (names_of s.running ++ changed_names x.changes ++ []) all
        (each-append _ (names_of s.running ++ changed_names x.changes) []
        (each-append _ (names_of s.running) (changed_names x.changes)
        (clusters-in (names_of s.running) old (parts_in s x) (left-in s.running x.saved))
        (parts-in (changed_names x.changes) old (parts_in s x) (changes-in s x))) tt) in
        omega (arith, fewer, v.names)

-- and so does a new session
idle-waits : (s : NodeState) (client tag : ℕ) → client < client_limit → (tag == 0) ≡ not (client == 0) → Base s → Free s
    → Waits s (new_session s client tag)
idle-waits s client tag low own b f = grind (arith, each-imp)

own-tag : (a b : Bool) → (if a then b else not b) ≡ false → b ≡ not a
own-tag true b e = e
own-tag false true e = refl
own-tag false false e = absurd (cc)

-- the table takes a package in Idle and in Ready
process-status : (a : Status) (id tag : ℕ) → is_none (status_table a (ProcessSwPackage id tag)) ≡ false
    → ((a ≡ Idle) ⊎ (a ≡ Ready)) × (status_table a (ProcessSwPackage id tag) ≡ Some (To Processing))
process-status x id tag e = grind arith

-- a package is taken into processing
pub process-fit : (read : Reading) (s : NodeState) (client id tag : ℕ) → client < client_limit → IsFit read s
    → option_or (first_refusal (session_refusals s client (ProcessSwPackage id tag)))
    (process_refusal s client tag (transfer_of s client id)) ≡ None
    → IsFit read (led_by (ProcessSwPackage id tag) (begin_processing s client id tag))
process-fit read s client id tag low fit r =
    let both : (first_refusal (session_refusals s client (ProcessSwPackage id tag)) ≡ None)
    × (process_refusal s client tag (transfer_of s client id) ≡ None) = both-none _ _ r in
    let session = rows-clear (session_refusals s client (ProcessSwPackage id tag)) both.0 in
    let status = process-status s.status id tag session.1.0 in
    let rows : List (Bool × Refusal) = (is_wrong_tag s client tag, OperationNotPermitted) ∷
    (is_none (transfer_of s client id), InvalidTransferId) ∷ (
      some_passes (λ (t : Transfer). not (is_in Transferred t.header)) (transfer_of s client id),
      OperationNotPermitted,
    ) ∷ [] in
    let process : (first_refusal rows ≡ None)
    × (parts_refusal {E = Bytes} s.running (changes_in s) [] (parts_of (transfer_of s client id)) ≡ None)
    = both-none _ _ both.1 in
    let clear = rows-clear rows process.0 in
    let u = some-transfer (transfer_of s client id) clear.1.0 in
    let phase = is-transferred u.0.header
    (not-false _ (ap (some_passes (λ (t : Transfer). not (is_in Transferred t.header))) (sym u.1) ∙ clear.1.1.0)) in
    let tag-is = own-tag (client == 0) (tag == 0)
    (neither (if client == 0 then tag == 0 else not (tag == 0)) _ clear.0).0 in
    let accepted : parts_refusal s.running (changes_in s) [] u.0.parts
    ≡ None = ap (λ o. parts_refusal s.running (changes_in s) [] (parts_of o)) (sym u.1) ∙ process.1 in
    let begin : Option Session
    → NodeState = λ o. record (begin_processing s client id tag) {
      status = Processing;
      session = Some
          (record (unwrap_or o (new_session s client tag)) { processing = Some id; units_done = 0 });
    } in
    let Accepted : Option Session
    → Type 0 = λ o. parts_refusal s.running (option_map_or (λ (x : Session). x.changes) o []) [] u.0.parts ≡ None in
    let go : (o : Option Session) → s.session ≡ o → Accepted o → some_passes (λ x. not (x.owner == client)) o ≡ false
    → IsFit read (begin o) =
    elim [
      | None ↦ λ e a _. begun-fit read s (new_session s client tag) id u.0 fit
          (idle-waits s client tag low tag-is (base-of s fit.consistent) (free-of s e fit.consistent)) u.1 phase a
      | Some x ↦ λ e a own.
          let owner : x.owner ≡ client = eqb-true _ _ (not-false _ own) in
          begun-fit read s x id u.0 fit (waits x e status.0) (ap (λ n. found n id s.transfers) owner ∙ u.1) phase a
    ] in
    subst (λ o. IsFit read
    (option_map_or (arrive (begin_processing s client id tag)) o (begin_processing s client id tag))) (sym status.1)
    (go s.session refl accepted session.0)
  where
    waits : (x : Session) → s.session ≡ Some x → (s.status ≡ Idle) ⊎ (s.status ≡ Ready) → Waits s x
    waits x e (inl idle) = absurd (subst (λ st. SessionIsDue st (Some x)) idle (busy-of s x e fit.consistent).due)
    waits x e (inr ready) = ready-waits s x (at-status s x Ready ready (busy-of s x e fit.consistent))

-- nothing is in processing any more, and the transfer is as it was before
stopped : (read : Reading) (s : NodeState) (x : Session) (id : ℕ) (u : Transfer) (to : Status) (o : Option Outcome)
    → IsFit read s → Busy (record s { status = Processing }) (record x { processing = Some id })
    → found x.owner id s.transfers ≡ Some u
    → SessionIsDue to (Some (record x { processing = None; outcome = o }))
    → s.running ≡ should_run (record x { processing = None; outcome = o }) to o
    → (nat_lt 0 (length x.changes) || may_plan_nothing to) ≡ true
    → false ≡ has_status Processing (record s { status = to })
    → LeavesOneToVerify (record x { processing = None; outcome = o }) to
    → is_some o ≡ has_status CleaningUp (record s { status = to })
    → IsFit read
    (record s {
      status = to;
      transfers = map (changed id (rephased Transferred)) s.transfers;
      session = Some
          (record x { processing = None; outcome = o });
    })
stopped read s x id u to o fit v e due runs plans working leaves outcome = record {
  consistent =
      busy-is (record s { status = to; transfers = us }) (record x { processing = None; outcome = o })
      (base-rephased s x.owner id u BeingProcessed Transferred e phase being_processed late_transferred x to b)
      (record {
        due = due;
        runs = runs;
        changes = record {
          differ = v.changes.differ;
          whole =
              all-changed _ _ x.owner id (rephased Transferred) s.transfers u b.held.rise e v.changes.whole (λ t _ h. h)
              (λ _. tt);
          processed =
              each-imp _ _
              (λ change. same-processed x.owner id change.transfer s.transfers u Transferred b.held.rise e
              (ap (λ p. phase_code p == 3) phase) refl) x.changes v.changes.processed;
          not_empty = plans;
        };
        applies = record {
          differ =
              ap (λ ps. all_differ (map cluster_of ps)) none
              ∙ differ-first (map cluster_of planned) (map cluster_of rest)
              (ap all_differ (sym (map-append cluster_of planned rest)) ∙ v.applies.differ);
          each =
              subst (AllByRecursion (λ part. applies part x.saved ≡ true)) (sym none)
              (each-first _ planned _ v.applies.each);
        };
        each =
            in-other s x.owner id u BeingProcessed Transferred e phase being_processed late_transferred (Some id)
            None b.held v.each (λ t n. other-id t n) refl;
        working = working;
        unfinished = tt;
        leaves = leaves;
        outcome = outcome;
        names = names-fewer (s.running ++ x.saved) (s.running ++ x.saved) (planned ++ []) (planned ++ rest)
            (clusters-in (names_of (s.running ++ x.saved)) (s.running ++ x.saved) _
            (within-self (names_of (s.running ++ x.saved))))
            (parts-in (map cluster_of (planned ++ [])) (s.running ++ x.saved) (planned ++ rest) still-in) v.names;
        saved = v.saved;
      });
  read_parts =
      read-rephased s x.owner id u BeingProcessed Transferred e phase being_processed late_transferred read b.held
      fit.read_parts;
}
  where
    b : Base s
    b = base-of s fit.consistent

    us : List Transfer
    us = map (changed id (rephased Transferred)) s.transfers

    planned : List (Part Bytes)
    planned = map (λ change. change.part) x.changes

    rest : List (Part Bytes)
    rest = parts_of (found x.owner id s.transfers)

    none : planned ++ [] ≡ planned
    none = append-nil planned

    still-in : Within (map cluster_of (planned ++ [])) (map cluster_of (planned ++ rest))
    still-in =
        subst (λ ps. Within (map cluster_of ps) (map cluster_of (planned ++ rest))) (sym none)
        (subst (Within (map cluster_of planned)) (sym (map-append cluster_of planned rest))
        (within-left (map cluster_of planned) (map cluster_of planned) (map cluster_of rest)
        (within-self (map cluster_of planned))))

    phase : u.header.phase ≡ BeingProcessed
    phase =
        is-processing u.header ((found-has (λ t. is_of x.owner id t.header) _ s.transfers u v.each e).1
        ∙ eq-eqb _ _ (sym (found-is x.owner id s.transfers u e).0))

    other-id : (t : Transfer) → (t.header.id == id) ≡ false → (id == t.header.id) ≡ false
    other-id t n = grind arith

passes-some : (o : Option ℕ) (n : ℕ) → some_passes (λ i. i == n) o ≡ true → o ≡ Some n
passes-some x n e = grind arith

cancel-status : (a : Status) (id : ℕ) → is_none (status_table a (Cancel id)) ≡ false
    → (a ≡ Processing) × (status_table a (Cancel id) ≡ Some Resume)
cancel-status x id e = grind arith

-- a package is not processed after all
pub cancel-fit : (read : Reading) (s : NodeState) (client id : ℕ) → IsFit read s
    → option_or (first_refusal (session_refusals s client (Cancel id)))
    (first_refusal (cancel_refusals (header_of (transfer_of s client id)))) ≡ None
    → IsFit read (led_by (Cancel id) (stop_processing s id))
cancel-fit read s client id fit r =
    let both : (first_refusal (session_refusals s client (Cancel id)) ≡ None)
    × (first_refusal (cancel_refusals (header_of (transfer_of s client id))) ≡ None) = both-none _ _ r in
    let session = rows-clear (session_refusals s client (Cancel id)) both.0 in
    let status = cancel-status s.status id session.1.0 in
    let clear = rows-clear (cancel_refusals (header_of (transfer_of s client id))) both.1 in
    let u = some-header (transfer_of s client id) clear.0 in
    let processing : is_in BeingProcessed u.0.header
    ≡ true = not-false _ (ap (λ o. some_passes (λ h. not (is_in BeingProcessed h)) (header_of o)) (sym u.1)
    ∙ clear.1.0) in
    let stop : Option Session
    → NodeState = λ o. record (stop_processing s id)
    { session = option_map (λ (x : Session). record x { processing = None }) o } in
    let go : (o : Option Session) → s.session ≡ o → some_passes (λ x. not (x.owner == client)) o ≡ false
    → IsFit read (arrive (stop o) Resume) =
    elim [
      | None ↦ λ e _. absurd
          (subst (λ st. SessionIsDue st None) status.0 (subst (SessionIsDue s.status) e fit.consistent.session))
      | Some x ↦ λ e own. resumed x u.0 (at-status s x Processing status.0 (busy-of s x e fit.consistent))
          (ap (λ n. found n id s.transfers) (eqb-true x.owner client (not-false _ own)) ∙ u.1) processing
    ] in
    subst (λ o. IsFit read (option_map_or (arrive (stop_processing s id)) o (stop_processing s id))) (sym status.1)
    (go s.session refl session.0)
  where
    resumed : (x : Session) (u : Transfer) → Busy (record s { status = Processing }) x
        → found x.owner id s.transfers ≡ Some u → is_in BeingProcessed u.header ≡ true
        → IsFit read (arrive (record (stop_processing s id) { session = Some (record x { processing = None }) }) Resume)
    resumed x u v e p = go x.changes refl
      where
        processing : x.processing ≡ Some id
        processing =
            let own = (found-has (λ t. is_of x.owner id t.header) _ s.transfers u v.each e).1 in
            passes-some x.processing id
            (ap (λ n. some_passes (λ i. i == n) x.processing) (sym (found-is x.owner id s.transfers u e).0)
            ∙ (sym own ∙ p))

        w : Busy (record s { status = Processing }) (record x { processing = Some id })
        w = subst (λ o. Busy (record s { status = Processing }) (record x { processing = o })) processing v

        go : (cs : List (Change Bytes)) → x.changes ≡ cs
            → IsFit read
            (elim cs as (λ _. NodeState) [
              | [] ↦ record (stop_processing s id)
                  { status = CleaningUp; session = Some (record x { processing = None; outcome = Some Old }) }
              | c
                  ∷ rest ↦ record (stop_processing s id)
                  { status = Ready; session = Some (record x { processing = None }) }
            ])
        go [] q = stopped read s x id u CleaningUp (Some Old) fit w e w.due w.runs (or-true _) refl w.leaves refl
        go (c ∷ rest) q =
            stopped read s x id u Ready x.outcome fit w e w.due w.runs
            (rw (ap length q, lt-ltb 0 (length (c ∷ rest)) (omega arith)) refl) refl w.leaves w.outcome
