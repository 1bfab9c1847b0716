-- A calm node stays calm under the calls of the rounds that it accepts, and under its units.
use Rattle.std.specs.List.{AllByRecursion, list_any}
use Rattle.std.specs.Prelude.{slice_get}
use Rattle.std.proofs.Common.{length-append, length-take}
use Rattle.std.proofs.lemmas.List.{length-map}
use Rattle.std.proofs.lemmas.Bool.Decides.{nat_tests}
use Rattle.pm_types.specs.NodeState.{has_status, some_passes}
use Rattle.pm_types.specs.Steps.{acceptance}
use Rattle.pm_types.specs.Transfers.{fresh}
use Rattle.pm_types.specs.Histories.{unit_passes, passes}
use Rattle.node_laws.proofs.Lists.{each-append, each-imp, each-both, changed, neither}
use Rattle.node_laws.proofs.NameLists.{or-right}
use Rattle.node_laws.proofs.KeptProcessing.{rephased}
use Rattle.world.proofs.Names.{◌≡◌, ◌≢◌, ◌⊎◌, inl, inr, ℕ, zero, suc, ◌+◌, ◌<◌, Bool, true, false, not, if◌then◌else◌}
use Rattle.world.proofs.Names.{List, [], ◌∷◌, ◌++◌, length, take, drop, map, Option, Some, None, ◌==◌, option_map_or}
use Rattle.world.proofs.Names.{option_and_then, refl, sym, ap, subst, ◌∙◌, arith, eqb-true, eq-eqb, length-drop, Bytes}
use Rattle.world.proofs.Names.{Cluster, Part, Change, Header, Transfer, NodeState, Session, Verdict, Reading}
use Rattle.world.proofs.Names.{Transferred, BeingProcessed, Processed, CleaningUp, Verifying, Call, Sync, TransferStart}
use Rattle.world.proofs.Names.{TransferData, TransferExit, ProcessSwPackage, Activate, Stage, AtSync, AtStart}
use Rattle.world.proofs.Names.{AtData}
use Rattle.world.proofs.Names.{AtProcess, AtActivate, Over, RefusedOnce, call_at, onward, next_package}
use Rattle.world.proofs.Names.{block_limit, next_processed}
use Rattle.world.proofs.Names.{refusal, accepted, started, with_block, exited, grown, led_by, begin_processing, is_in}
use Rattle.world.proofs.Names.{IsConsistent, id_in_processing, has_name, cluster_of, parts_in}
use Rattle.world.proofs.Rules.{NodeRules}
use Rattle.world.proofs.Instance.{unit_in, mine_in, planned_in}
use Rattle.world.proofs.FitLaws.{KeepsNode, FitState, fit}
use Rattle.world.proofs.EarlyFacts.{IsAt}
use Rattle.run_claim.proofs.Idle.{AllMine, NoOther}
use Rattle.run_claim.proofs.CalmState.{CountsFrom, saved_or_running, IsSent, SentOrWhole, AllWhole, RestIsWhole}
use Rattle.run_claim.proofs.CalmState.{IsCalmBy, IsCalm}

-- a transfer is in phase Transferred, or was taken
abbrev Whole : Transfer → Type 0
Whole t = t.header.phase ≡ Transferred

abbrev WholeAfter : ℕ → Transfer → Type 0
WholeAfter taken t = taken < t.header.id → t.header.phase ≡ Transferred

-- what is said of each transfer after one has changed
each-if : (P Q : Transfer → Type 0) (id : ℕ) (f : Transfer → Transfer) (ts : List Transfer)
    → ((t : Transfer) → (t.header.id == id) ≡ true → P t → Q (f t))
    → ((t : Transfer) → (t.header.id == id) ≡ false → P t → Q t)
    → AllByRecursion P ts → AllByRecursion Q (map (changed id f) ts)
each-if P Q id f [] own other h = tt
each-if P Q id f (t ∷ ts) own other h = (go (t.header.id == id) refl, each-if P Q id f ts own other h.1)
  where
    go : (b : Bool) → (t.header.id == id) ≡ b → Q (if b then f t else t)
    go true e = own t e h.0
    go false e = other t e h.0

-- they stay client 0's
mine-if : (id : ℕ) (f : Transfer → Transfer) (ts : List Transfer)
    → ((t : Transfer) → (f t).header.client ≡ t.header.client) → AllMine ts → AllMine (map (changed id f) ts)
mine-if id f ts keeps h =
    each-if (λ t. t.header.client ≡ 0) (λ t. t.header.client ≡ 0) id f ts (λ t e m. keeps t ∙ m) (λ t e m. m) h

-- the stage after some packages are whole
next-calm : (s : NodeState) (ids : List ℕ) (left : List (List ℕ)) → AllWhole s ids → IsCalmBy s (next_package ids left)
next-calm s ids [] h = record { counts = h.counts; each = each-imp _ _ (λ t e low. e) s.transfers h.each }
next-calm s ids (p ∷ left) h = h

-- and after some were taken
taken-calm : (s : NodeState) (ids : List ℕ) (taken : ℕ) → RestIsWhole s ids taken
    → IsCalmBy s (next_processed ids taken)
taken-calm s [] taken h = tt
taken-calm s (id ∷ ids) taken h = h

-- ids that count up, and the next one
counts-more : (n : ℕ) (ids : List ℕ) (id : ℕ) → CountsFrom n ids → id ≡ n + length ids → CountsFrom n (ids ++ id ∷ [])
counts-more n [] id h e = (omega (arith, e), tt)
counts-more n (x ∷ ids) id h e = (h.0, counts-more (suc n) ids id h.1 (omega (arith, e)))

-- a transfer with a lower id than the newest isn't the one that is sent
older : (t : Transfer) (next left : ℕ) → Whole t → t.header.id < next
    → SentOrWhole (t.header.id == next) 1 left t.header
older t next left e low = let differs : (t.header.id == next) ≡ false = grind (arith, nat_tests) in rw differs e

-- the header of a transfer that has just begun
newest : (b : Bool) (next size : ℕ) → b ≡ true
    → SentOrWhole b 1 size (fresh next 0 size)
newest true next size e = record { phase = refl; counter = refl; size = omega arith }
newest false next size e = absurd (cc e)

-- a block less to come
grows : (h : Header) (counter : ℕ) (bytes : List ℕ) → IsSent counter (length bytes) h
    → IsSent (counter + 1) (length (drop block_limit bytes)) (grown (length (take block_limit bytes)) h)
grows h counter bytes sent =
    let block = length-take block_limit bytes in
    let rest = length-drop block_limit bytes in
    let size = sent.size in
    let n = sent.counter in
    record { phase = sent.phase; counter = omega (arith, n); size = omega (arith, block, rest, size) }

module _ (clusters : List (Cluster Bytes)) (k : ℕ) (ps : List (List ℕ)) where
  -- after Sync
  calm-sync : (s : NodeState) → IsCalm clusters s AtSync → IsCalm clusters s (next_package [] ps)
  calm-sync s h = record { mine = h.mine; own = h.own; saved = h.saved; by = next-calm s [] ps h.by }

  -- after TransferStart
  calm-start : (s : NodeState) (ids : List ℕ) (p : List ℕ) (left : List (List ℕ)) → IsConsistent s
      → IsCalm clusters s (AtStart ids (p ∷ left))
      → IsCalm clusters (started s 0 (length p)) (AtData ids s.next_id 1 p left)
  calm-start s ids p left c h = record {
    mine = each-append _ s.transfers _ h.mine (refl, tt);
    own = h.own;
    saved = h.saved;
    by = record {
      counts = h.by.counts;
      newest = h.by.next;
      next = omega arith;
      many = let m = h.by.many in length-append s.transfers _ ∙ omega (arith, m);
      each = each-append _ s.transfers _
          (each-both Whole _ _ (λ t e sound. older t s.next_id (length p) e sound.id.1) s.transfers h.by.each
          c.transfers.each)
          (newest (s.next_id == s.next_id) s.next_id (length p) (eq-eqb s.next_id s.next_id refl), tt);
    };
  }

  -- after TransferData
  calm-data : (s : NodeState) (ids : List ℕ) (id counter b : ℕ) (bs : List ℕ) (left : List (List ℕ))
      → IsCalm clusters s (AtData ids id counter (b ∷ bs) left)
      → IsCalm clusters (with_block s id (take block_limit (b ∷ bs)))
      (AtData ids id (counter + 1) (drop block_limit (b ∷ bs)) left)
  calm-data s ids id counter b bs left h = record {
    mine = mine-if id _ s.transfers (λ t. refl) h.mine;
    own = h.own;
    saved = h.saved;
    by = record {
      counts = h.by.counts;
      newest = h.by.newest;
      next = h.by.next;
      many = length-map s.transfers _ ∙ h.by.many;
      each = each-if (λ t. SentOrWhole (t.header.id == id) counter (length (b ∷ bs)) t.header)
          (λ t. SentOrWhole (t.header.id == id) (counter + 1) (length (drop block_limit (b ∷ bs))) t.header) id _
          s.transfers
          (λ t e sent. rw e (grows t.header counter (b ∷ bs) (rw e at sent))) (λ t e whole. rw e (rw e at whole))
          h.by.each;
    };
  }

  -- after TransferExit
  calm-exit : (s : NodeState) (ids : List ℕ) (id counter : ℕ) (left : List (List ℕ)) (v : Verdict)
      → IsCalm clusters s (AtData ids id counter [] left)
      → IsCalm clusters (exited s id v) (next_package (ids ++ id ∷ []) left)
  calm-exit s ids id counter left v h =
      let n = h.by.newest in
      let m = h.by.next in
      let count = h.by.many in
      let l = length-append ids (id ∷ []) in
      record {
        mine = mine-if id _ s.transfers (λ t. refl) h.mine;
        own = h.own;
        saved = h.saved;
        by = next-calm (exited s id v) (ids ++ id ∷ []) left (record {
          counts = counts-more 1 ids id h.by.counts (omega (arith, n));
          next = omega (arith, n, m, l);
          many = length-map s.transfers _ ∙ omega (arith, count, l);
          each = each-if (λ t. SentOrWhole (t.header.id == id) counter 0 t.header) Whole id _ s.transfers
              (λ t e sent. refl) (λ t e whole. rw e at whole) h.by.each;
        });
      }

  -- the node after ProcessSwPackage: its session is client 0's and saved what ran, and one transfer is in processing
  abbrev taking : NodeState → ℕ → NodeState
  taking s id = led_by (ProcessSwPackage id k) (begin_processing s 0 id k)

  taking-own : (s : NodeState) (id : ℕ) → NoOther s.session → NoOther (taking s id).session
  taking-own s id h = grind arith

  taking-saved : (s : NodeState) (id : ℕ) → saved_or_running (taking s id) ≡ saved_or_running s
  taking-saved s id = grind arith

  taking-transfers : (s : NodeState) (id : ℕ)
      → (taking s id).transfers ≡ map (changed id (rephased BeingProcessed)) s.transfers
  taking-transfers s id = grind arith

  -- the one that is taken isn't among the rest
  not-rest : (t : Transfer) (id taken : ℕ) → (t.header.id == id) ≡ true → id ≡ suc taken
      → WholeAfter (suc taken) (rephased BeingProcessed t)
  not-rest t id taken e n low =
      let same = eqb-true t.header.id id e in
      absurd (let f : ⊥ = omega (arith, same, n, low) in f)

  calm-process : (s : NodeState) (id : ℕ) (ids : List ℕ) (taken : ℕ) → IsCalm clusters s (AtProcess (id ∷ ids) taken)
      → IsCalm clusters (taking s id) (next_processed ids (suc taken))
  calm-process s id ids taken h = record {
    mine = rw (taking-transfers s id) (mine-if id _ s.transfers (λ t. refl) h.mine);
    own = taking-own s id h.own;
    saved = taking-saved s id ∙ h.saved;
    by = taken-calm (taking s id) ids (suc taken) (record {
      counts = h.by.counts.1;
      each = rw (taking-transfers s id)
          (each-if (WholeAfter taken) (WholeAfter (suc taken)) id _ s.transfers
          (λ t e whole. not-rest t id taken e h.by.counts.0) (λ t e whole low. whole (omega (arith, low))) h.by.each);
    });
  }

  -- after Activate
  calm-activate : (s : NodeState) (v : Verdict) → refusal s 0 Activate v ≡ None → IsCalm clusters s AtActivate
      → IsCalm clusters (led_by Activate s) Over
  calm-activate s v none h = grind arith

  -- after a call of the rounds that is accepted
  abbrev GoesOn : NodeState → Verdict → Stage → Call → Type 0
  GoesOn s v stage call = IsCalm clusters (accepted s 0 call v) (onward ps stage (acceptance s 0 call))

  pub calm-on : (s : NodeState) (stage : Stage) (call : Call) (v : Verdict) → IsConsistent s
      → call_at k stage ≡ Some call → refusal s 0 call v ≡ None → IsCalm clusters s stage
      → IsCalm clusters (accepted s 0 call v) (onward ps stage (acceptance s 0 call))
  calm-on s AtSync call v c e none h =
      let q : Sync ≡ call = cc e in
      subst (GoesOn s v AtSync) q (calm-sync s h)
  calm-on s (AtStart ids (p ∷ left)) call v c e none h =
      let q : TransferStart (length p) ≡ call = cc e in
      subst (GoesOn s v (AtStart ids (p ∷ left))) q (calm-start s ids p left c h)
  calm-on s (AtData ids id counter [] left) call v c e none h =
      let q : TransferExit id ≡ call = cc e in
      subst (GoesOn s v (AtData ids id counter [] left)) q (calm-exit s ids id counter left v h)
  calm-on s (AtData ids id counter (b ∷ bs) left) call v c e none h =
      let q : TransferData id counter (take block_limit (b ∷ bs)) ≡ call = cc e in
      subst (GoesOn s v (AtData ids id counter (b ∷ bs) left)) q (calm-data s ids id counter b bs left h)
  calm-on s (AtProcess (id ∷ ids) taken) call v c e none h =
      let q : ProcessSwPackage id k ≡ call = cc e in
      subst (GoesOn s v (AtProcess (id ∷ ids) taken)) q (calm-process s id ids taken h)
  calm-on s AtActivate call v c e none h =
      let q : Activate ≡ call = cc e in
      let passed = subst (λ (a : Call). refusal s 0 a v ≡ None) (sym q) none in
      subst (GoesOn s v AtActivate) q (calm-activate s v passed h)
  calm-on s _ call v c e none h = absurd (cc e)

-- no part of these is of a cluster that fails
abbrev pub NoneFails : List (List ℕ) → List (Part Bytes) → Type 0
NoneFails fails parts = list_any (λ part. has_name fails (cluster_of part)) parts ≡ false

-- so no change of them fails its check
none-there : (fails : List (List ℕ)) (changes : List (Change Bytes)) (i : ℕ)
    → NoneFails fails (map (λ change. change.part) changes)
    → option_map_or (λ (c : Change Bytes). not (has_name fails (cluster_of c.part))) (slice_get changes i) true ≡ true
none-there fails [] i h = refl
none-there fails (c ∷ cs) zero h = ap not (neither (has_name fails (cluster_of c.part)) _ h).0
none-there fails (c ∷ cs) (suc i) h = none-there fails cs i (neither (has_name fails (cluster_of c.part)) _ h).1

-- and each unit passes
passes-by : (fails : List (List ℕ)) (o : Option Session)
    → NoneFails fails (map (λ change. change.part) (option_map_or (λ x. x.changes) o []))
    → option_map_or (λ (c : Change Bytes). not (has_name fails (cluster_of c.part)))
    (option_and_then (λ (x : Session). slice_get x.changes x.verified) o) true ≡ true
passes-by fails None h = refl
passes-by fails (Some x) h = none-there fails x.changes x.verified h

unit-passes : (fails : List (List ℕ)) (s : NodeState) (parts : List (Part Bytes)) → planned_in s ≡ parts
    → NoneFails fails parts → unit_passes fails s ≡ true
unit-passes fails s parts e none =
    or-right (not (has_status Verifying s)) (passes fails s)
    (passes-by fails s.session (subst (NoneFails fails) (sym e) none))

-- without a session a unit does nothing
unit-idle : (s : NodeState) (passed : Bool) → s.session ≡ None → unit_in s passed ≡ s
unit-idle s passed e = grind arith

-- a unit changes neither whose session it is, nor what this saved
unit-own : (s : NodeState) (passed : Bool) → NoOther s.session → NoOther (unit_in s passed).session
unit-own s passed h = grind arith

unit-saved : (s : NodeState) (passed : Bool) → s.status ≢ CleaningUp
    → saved_or_running (unit_in s passed) ≡ saved_or_running s
unit-saved s passed n = grind arith

-- it changes at most the phase of the transfer in processing
abbrev HasProcessed : NodeState → Bool → ℕ → Type 0
HasProcessed s passed id = (unit_in s passed).transfers ≡ map (changed id (rephased Processed)) s.transfers

abbrev KeepsOrProcesses : NodeState → Bool → Type 0
KeepsOrProcesses s passed =
    ((unit_in s passed).transfers ≡ s.transfers)
    ⊎ ((id : ℕ) × (id_in_processing s ≡ Some id) × HasProcessed s passed id)

unit-processes : (s : NodeState) (passed : Bool) (id : ℕ) → s.status ≢ CleaningUp → id_in_processing s ≡ Some id
    → ((unit_in s passed).transfers ≡ s.transfers) ⊎ HasProcessed s passed id
unit-processes s passed id n e = grind arith

unit-transfers : (s : NodeState) (passed : Bool) → s.status ≢ CleaningUp
    → KeepsOrProcesses s passed
unit-transfers s passed n = go (id_in_processing s) refl
  where
    go : (o : Option ℕ) → id_in_processing s ≡ o → KeepsOrProcesses s passed
    go None e = inl (grind arith)
    go (Some id) e = elim (unit-processes s passed id n e) [ inl same ↦ inl same | inr other ↦ inr (id, e, other) ]

unit-mine : (s : NodeState) (passed : Bool) → s.status ≢ CleaningUp → AllMine s.transfers
    → AllMine (unit_in s passed).transfers
unit-mine s passed n h = elim (unit-transfers s passed n) [
  | inl same ↦ rw same h
  | inr other ↦ rw other.2 (mine-if other.0 _ s.transfers (λ t. refl) h)
]

-- exactly the transfer in processing is in that phase
abbrev IsDue : NodeState → Transfer → Type 0
IsDue s t = is_in BeingProcessed t.header ≡ some_passes (λ id. id == t.header.id) (id_in_processing s)

-- and so not in phase Transferred
not-taken : (s : NodeState) (id : ℕ) (t : Transfer) → id_in_processing s ≡ Some id → (t.header.id == id) ≡ true
    → IsDue s t → Whole t → ⊥
not-taken s id t e same due phase = grind (arith, nat_tests)

-- so what waits stays whole
unit-waits : (s : NodeState) (passed : Bool) (ids : List ℕ) (taken : ℕ) → IsConsistent s → s.status ≢ CleaningUp
    → RestIsWhole s ids taken → RestIsWhole (unit_in s passed) ids taken
unit-waits s passed ids taken c n h = record {
  counts = h.counts;
  each = elim (unit-transfers s passed n) [
    | inl same ↦ rw same h.each
    | inr other ↦ rw other.2
        (each-if (λ t. IsDue s t × WholeAfter taken t) (WholeAfter taken) other.0 _ s.transfers
        (λ t e p low. absurd (not-taken s other.0 t other.1 e p.0 (p.1 low))) (λ t e p. p.1)
        (each-both (IsDue s) _ _ (λ t a b. (a, b)) s.transfers c.processing.each h.each))
  ];
}

-- a unit that passes goes on to Activated
unit-goes : (s : NodeState) (x : Session) (passed : Bool) → s.session ≡ Some x → passed ≡ true → IsCalmBy s Over
    → IsCalmBy (unit_in s passed) Over
unit-goes s x passed e p h = grind arith

-- a session that isn't another client's is client 0's
owned : (s : NodeState) (y : Session) → s.session ≡ Some y → NoOther s.session → mine_in s ≡ Some y.tag
owned s y e h = grind (arith, nat_tests)

module _ (read : Reading) (keeps : KeepsNode read []) (clusters : List (Cluster Bytes)) (k : ℕ) (ps : List (List ℕ))
    (fails : List (List ℕ)) (sound : NoneFails fails (parts_in read ps)) where
  abbrev N : NodeRules
  N = fit read [] keeps

  -- client 0's session, if there is one, is the campaign's, and isn't being cleaned up
  mine-at : (x : FitState read) (stage : Stage) → IsAt N x k ps stage
      → (mine_in x.state ≡ None) ⊎ (mine_in x.state ≡ Some k)
  mine-at x stage h = grind arith

  not-cleaning : (x : FitState read) (stage : Stage) → IsAt N x k ps stage → mine_in x.state ≡ Some k
      → x.state.status ≢ CleaningUp
  not-cleaning x stage h m c = grind arith

  -- what holds at each stage, where there is a session
  by-unit : (x : FitState read) (passed : Bool) (y : Session) (stage : Stage) → x.state.session ≡ Some y
      → mine_in x.state ≡ Some k → passed ≡ unit_passes fails x.state → x.state.status ≢ CleaningUp
      → IsAt N x k ps stage → IsCalmBy x.state stage → IsCalmBy (unit_in x.state passed) stage
  by-unit x passed y AtSync e m p n at h = absurd (cc (at, m))
  by-unit x passed y (AtStart ids left) e m p n at h = absurd (let none = at.none in cc (none, m))
  by-unit x passed y (AtData ids id counter bytes left) e m p n at h = absurd (let none = at.none in cc (none, m))
  by-unit x passed y (AtProcess ids taken) e m p n at h = unit-waits x.state passed ids taken x.fit.consistent n h
  by-unit x passed y AtActivate e m p n at h = tt
  by-unit x passed y Over e m p n at h =
      unit-goes x.state y passed e (p ∙ unit-passes fails x.state (parts_in read ps) at.planned sound) h
  by-unit x passed y RefusedOnce e m p n at h = absurd at

  -- after a unit with the verdict that the node has
  pub calm-unit : (x : FitState read) (passed : Bool) (stage : Stage) → passed ≡ unit_passes fails x.state
      → IsAt N x k ps stage → IsCalm clusters x.state stage → IsCalm clusters (unit_in x.state passed) stage
  calm-unit x passed stage p at h = go x.state.session refl
    where
      some : (y : Session) → x.state.session ≡ Some y → mine_in x.state ≡ Some k
          → IsCalm clusters (unit_in x.state passed) stage
      some y e m =
          let n = not-cleaning x stage at m in
          record {
            mine = unit-mine x.state passed n h.mine;
            own = unit-own x.state passed h.own;
            saved = unit-saved x.state passed n ∙ h.saved;
            by = by-unit x passed y stage e m p n at h.by;
          }

      go : (o : Option Session) → x.state.session ≡ o → IsCalm clusters (unit_in x.state passed) stage
      go None e = subst (λ (s : NodeState). IsCalm clusters s stage) (sym (unit-idle x.state passed e)) h
      go (Some y) e = elim (mine-at x stage at) [
        | inl none ↦ absurd (let m = owned x.state y e h.own in cc (none, m))
        | inr m ↦ some y e m
      ]
