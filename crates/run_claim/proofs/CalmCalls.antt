-- No call of the rounds is refused where the other clients are calm and the steps go through.
use Rattle.std.specs.List.{AllByRecursion}
use Rattle.std.specs.Prelude.{is_none, Contains}
use Rattle.std.proofs.Common.{length-append, length-take}
use Rattle.std.proofs.lemmas.Bool.Decides.{nat_tests}
use Rattle.std.proofs.lemmas.Grind.{flat_map-append}
use Rattle.ucm_base.specs.Limits.{block_limit, package_limit, transfer_limit}
use Rattle.pm_types.specs.declared.history.Entry.TheVariants.{Numbered}
use Rattle.pm_types.specs.Sessions.{parts_refusal, process_refusal, activate_refusal, planned_clusters}
use Rattle.pm_types.specs.Transfers.{start_refusals, data_refusals, exit_refusals, verdict_refusal}
use Rattle.node_laws.specs.Fit.{IsRead}
use Rattle.node_laws.proofs.Lists.{found-is}
use Rattle.world.proofs.Names.{◌≡◌, ◌⊎◌, inl, inr, ℕ, zero, suc, ◌+◌, ◌<◌, ◌≤◌, Bool, true, false, ◌==◌, ◌&&◌, cond}
use Rattle.world.proofs.Names.{List}
use Rattle.world.proofs.Names.{[], ◌∷◌, ◌++◌, length, take, drop, map, filter, find, get_or, Option, Some, None}
use Rattle.world.proofs.Names.{refl, sym}
use Rattle.world.proofs.Names.{ap, subst, ◌∙◌, arith, append-nil, eq-eqb, length-drop, header_of, option_or}
use Rattle.world.proofs.Names.{option_map_or}
use Rattle.world.proofs.Names.{Bytes, Cluster, Part, Header, Transfer, NodeState, Session, Refusal, Reading}
use Rattle.world.proofs.Names.{CallNo}
use Rattle.world.proofs.Names.{Reply, Transferred, Ready, Processing, Call, Sync, TransferStart, TransferData}
use Rattle.world.proofs.Names.{TransferExit}
use Rattle.world.proofs.Names.{ProcessSwPackage, Activate, Stage, AtSync, AtStart, AtData, AtProcess, AtActivate}
use Rattle.world.proofs.Names.{call_at}
use Rattle.world.proofs.Names.{transfer_of, ids_of, is_of, first_refusal, refusal, verdict_for, parts_read}
use Rattle.world.proofs.Names.{is_wrong_tag}
use Rattle.world.proofs.Names.{session_refusals, changes_in, changes_of, planned, all_differ, cluster_of, IsConsistent}
use Rattle.world.proofs.Names.{parts_in}
use Rattle.world.proofs.Rules.{NodeRules}
use Rattle.world.proofs.Instance.{mine_in, planned_in, received_in}
use Rattle.world.proofs.FitLaws.{KeepsNode, FitState, fit}
use Rattle.world.proofs.EarlyFacts.{IsAt, Hold, Has, Sends, Fills}
use Rattle.world.proofs.TransferLaws.{find-all}
use Rattle.world.proofs.Sessions.{mine-some}
use Rattle.run_claim.specs.Calm.{IsWhole, AreWhole}
use Rattle.run_claim.specs.Eligible.{all_apply, all_met}
use Rattle.run_claim.specs.Masters.{needs_rest, is_at_work}
use Rattle.run_claim.proofs.Idle.{NoOther}
use Rattle.run_claim.proofs.InTurn.{passes-in-turn, same-plan}
use Rattle.run_claim.proofs.CalmState.{saved_or_running, IsSent, SentOrWhole, AllWhole, OneComes, IsCalm}

-- client 0's transfers, and their ids
abbrev mine : List Transfer → List Transfer
mine ts = filter (λ (t : Transfer). t.header.client == 0) ts

abbrev ids_in : List Transfer → List ℕ
ids_in ts = map (λ (t : Transfer). t.header.id) ts

-- a transfer of client 0 is found by its id
abbrev IsFound : ℕ → List Transfer → Type 0
IsFound id ts = (t : Transfer) × (find (λ t. is_of 0 id t.header) ts ≡ Some t)

-- and so is one that is listed
found-listed : (id : ℕ) (ts : List Transfer) (i : ℕ)
    → i < length (ids_in (mine ts)) → get_or (ids_in (mine ts)) i id ≡ id → IsFound id ts
found-listed id [] i lt e = absurd (omega (arith, lt))
found-listed id (t ∷ ts) i lt e =
    go (t.header.client == 0) (t.header.id == id) refl i lt e (λ j. found-listed id ts j)
  where
    go : (b c : Bool) → (t.header.id == id) ≡ c → (i : ℕ)
        → i < length (ids_in (cond b (t ∷ mine ts) (mine ts)))
        → get_or (ids_in (cond b (t ∷ mine ts) (mine ts))) i id ≡ id
        → ((j : ℕ) → j < length (ids_in (mine ts)) → get_or (ids_in (mine ts)) j id ≡ id → IsFound id ts)
        → (u : Transfer) × (cond (c && b) (Some t) (find (λ (u : Transfer). is_of 0 id u.header) ts) ≡ Some u)
    go true true q i lt e later = (t, refl)
    go true false q zero lt e later = absurd (let z = eq-eqb t.header.id id e in cc (z, q))
    go true false q (suc i) lt e later = later i (omega (arith, lt)) e
    go false true q i lt e later = later i lt e
    go false false q i lt e later = later i lt e

-- a start passes where few transfers are there
start-passes : (next count size : ℕ) → next ≤ 8 → count < transfer_limit → 1 ≤ size → size ≤ package_limit
    → first_refusal (start_refusals next count size) ≡ None
start-passes next count size a b c d = grind (arith, nat_tests)

-- the block that is due passes
data-passes : (h : Header) (counter size left : ℕ) → IsSent counter (size + left) h → 1 ≤ size → size ≤ 4096
    → first_refusal (data_refusals (Some h) counter size) ≡ None
data-passes h counter size left s low high = grind (arith, nat_tests)

-- an exit passes where no byte is to come
exit-passes : (h : Header) (counter : ℕ) → IsSent counter 0 h → first_refusal (exit_refusals (Some h)) ≡ None
exit-passes h counter s = grind (arith, nat_tests)

-- the campaign's tag is client 0's, and its session's
tag-passes : (s : NodeState) (k : ℕ) → 1 ≤ k → NoOther s.session → (mine_in s ≡ None) ⊎ (mine_in s ≡ Some k)
    → is_wrong_tag s 0 k ≡ false
tag-passes s k low own h = grind (arith, nat_tests)

-- a package that is whole and not taken yet passes with its parts
package-passes : (s : NodeState) (k : ℕ) (t : Transfer) → is_wrong_tag s 0 k ≡ false → t.header.phase ≡ Transferred
    → parts_refusal s.running (changes_in s) [] t.parts ≡ None → process_refusal s 0 k (Some t) ≡ None
package-passes s k t a b c = grind (arith, nat_tests)

-- what isn't there refuses nothing
is-none : {A : Type 0} (o : Option A) → is_none o ≡ true → o ≡ None
is-none None e = refl
is-none (Some a) e = absurd (cc e)

-- neither of two refusals
neither-refuses : (o p : Option Refusal) → o ≡ None → p ≡ None → option_or o p ≡ None
neither-refuses o p a b = rw a b

-- client 0 has no session
no-session : (s : NodeState) → NoOther s.session → mine_in s ≡ None → s.session ≡ None
no-session s own h = grind (arith, nat_tests)

none-planned : (s : NodeState) → s.session ≡ None → planned_in s ≡ []
none-planned s e = grind arith

-- what is said of each of some packages is said of one among them
each-at : (P : List ℕ → Type 0) (done : List (List ℕ)) (p : List ℕ) (left : List (List ℕ))
    → AllByRecursion P (done ++ p ∷ left) → P p
each-at P [] p left h = h.0
each-at P (d ∷ ds) p left h = each-at P ds p left h.1

module _ (k : ℕ) where
  -- there is no session yet, or client 0's waits for its next call
  abbrev AtRest : NodeState → Type 0
  AtRest s = (s.session ≡ None) ⊎ ((mine_in s ≡ Some k) × (s.status ≡ Ready))

  tag-of : (s : NodeState) → AtRest s → (mine_in s ≡ None) ⊎ (mine_in s ≡ Some k)
  tag-of s h = grind arith

  -- a session that processes is at work
  at-work : (s : NodeState) → mine_in s ≡ Some k → s.status ≡ Processing → is_at_work s ≡ false → ⊥
  at-work s m st rest = grind (arith, nat_tests)

  -- the session refuses neither call
  process-session : (s : NodeState) (id : ℕ) → IsConsistent s → NoOther s.session → AtRest s
      → first_refusal (session_refusals s 0 (ProcessSwPackage id k)) ≡ None
  process-session s id c own h = grind (arith, nat_tests)

  activate-session : (s : NodeState) → NoOther s.session → mine_in s ≡ Some k → s.status ≡ Ready
      → first_refusal (session_refusals s 0 Activate) ≡ None
  activate-session s own m st = grind (arith, nat_tests)

  -- before the clusters change those that were saved run
  running-saved : (s : NodeState) → IsConsistent s → AtRest s → s.running ≡ saved_or_running s
  running-saved s c h = grind (arith, nat_tests)

module _ (read : Reading) (keeps : KeepsNode read []) where
  abbrev N : NodeRules
  N = fit read [] keeps

  -- no call is refused
  abbrev IsAccepted : FitState read → Call → Type 0
  IsAccepted x call = refusal x.state 0 call (verdict_for read x.state 0 call) ≡ None

  there : (x : FitState read) (id : ℕ) → Contains (ids_of x.state 0) id → IsFound id x.state.transfers
  there x id h = found-listed id x.state.transfers h.0 h.1 h.2

  -- as many ids as packages
  hold-many : (x : FitState read) (ids : List ℕ) (ps : List (List ℕ)) → Hold N x ids ps → length ids ≡ length ps
  hold-many x [] [] h = refl
  hold-many x (id ∷ ids) (p ∷ ps) h = ap suc (hold-many x ids ps h.2)
  hold-many x [] (p ∷ ps) h = absurd h
  hold-many x (id ∷ ids) [] h = absurd h

  -- a whole transfer's parts are those of its bytes
  read-parts : (x : FitState read) (id : ℕ) (t : Transfer) → transfer_of x.state 0 id ≡ Some t
      → t.header.phase ≡ Transferred → t.parts ≡ parts_read (read (received_in x.state id))
  read-parts x id t f phase =
      let each = find-all (λ t. IsRead read t t.header.phase) _ x.state.transfers t x.fit.read_parts f in
      let bytes = λ (o : Option Transfer). option_map_or (λ (u : Transfer). u.bytes) o [] in
      subst (IsRead read t) phase each ∙ ap (λ (o : Option Transfer). parts_read (read (bytes o))) (sym f)

  module _ (clusters : List (Cluster Bytes)) (k : ℕ) (ps : List (List ℕ)) (low : 1 ≤ k)
      (few : length ps ≤ transfer_limit) (whole : AreWhole read ps) where
    -- one package is as a vehicle package has it
    whole-at : (done : List (List ℕ)) (p : List ℕ) (left : List (List ℕ)) → done ++ p ∷ left ≡ ps → IsWhole read p
    whole-at done p left all =
        each-at (IsWhole read) done p left
        (subst (λ (qs : List (List ℕ)). AllByRecursion (IsWhole read) qs) (sym all) whole.each)

    -- TransferStart
    start-accepted : (x : FitState read) (ids : List ℕ) (p : List ℕ) (left : List (List ℕ))
        → Sends N x ids (p ∷ left) ps → AllWhole x.state ids → IsAccepted x (TransferStart (length p))
    start-accepted x ids p left at calm =
        let w = whole-at at.done p left at.all in
        let held = hold-many x ids at.done at.hold in
        let all : length (at.done ++ p ∷ left) ≡ length ps = ap (λ (l : List (List ℕ)). length l) at.all in
        let sum = length-append at.done (p ∷ left) in
        let next = calm.next in
        let count = calm.many in
        start-passes x.state.next_id (length x.state.transfers) (length p)
        (omega (arith, held, all, sum, next, few)) (omega (arith, held, all, sum, count, few)) w.0 w.1

    -- the transfer that is being sent
    sent-one : (x : FitState read) (ids : List ℕ) (id counter : ℕ) (bytes : List ℕ) (left : List (List ℕ))
        → Fills N x ids id bytes left ps → OneComes x.state ids id counter (length bytes)
        → (t : Transfer) × (transfer_of x.state 0 id ≡ Some t) × IsSent counter (length bytes) t.header
    sent-one x ids id counter bytes left at calm =
        let size = length bytes in
        let f = there x id at.there in
        let same = found-is 0 id x.state.transfers f.0 f.1 in
        let sent = find-all (λ (t : Transfer). SentOrWhole (t.header.id == id) counter size t.header) _
        x.state.transfers f.0 calm.each f.1 in
        let own = subst (λ (b : Bool). SentOrWhole b counter size f.0.header) (eq-eqb f.0.header.id id same.0) sent in
        (f.0, f.1, own)

    -- TransferData
    data-accepted : (x : FitState read) (ids : List ℕ) (id counter b : ℕ) (bs : List ℕ) (left : List (List ℕ))
        → Fills N x ids id (b ∷ bs) left ps → OneComes x.state ids id counter (length (b ∷ bs))
        → IsAccepted x (TransferData id counter (take block_limit (b ∷ bs)))
    data-accepted x ids id counter b bs left at calm =
        let f = sent-one x ids id counter (b ∷ bs) left at calm in
        let size = length (take block_limit (b ∷ bs)) in
        let rest = length (drop block_limit (b ∷ bs)) in
        let taken = length-take block_limit (b ∷ bs) in
        let dropped = length-drop block_limit (b ∷ bs) in
        let all : size + rest ≡ length (b ∷ bs) = omega (arith, taken, dropped) in
        let sent = subst (λ (n : ℕ). IsSent counter n f.0.header) (sym all) f.2 in
        rw f.1 (data-passes f.0.header counter size rest sent (omega (arith, taken)) (omega (arith, taken)))

    -- TransferExit
    exit-accepted : (x : FitState read) (ids : List ℕ) (id counter : ℕ) (left : List (List ℕ))
        → Fills N x ids id [] left ps → OneComes x.state ids id counter 0 → IsAccepted x (TransferExit id)
    exit-accepted x ids id counter left at calm =
        let f = sent-one x ids id counter [] left at calm in
        let w = whole-at at.done at.whole left at.all in
        let bytes : received_in x.state id ≡ at.whole = sym (append-nil (received_in x.state id)) ∙ at.so_far in
        let good : verdict_refusal (read (received_in x.state id)) ≡ None = rw (bytes, w.2) refl in
        neither-refuses (first_refusal (exit_refusals (header_of (transfer_of x.state 0 id)))) _
        (rw f.1 (exit-passes f.0.header counter f.2)) good

    -- the next package: those before it are planned
    record IsTurn (x : FitState read) (id : ℕ) : Type 0 where
      done : List (List ℕ)
      p : List ℕ
      left : List (List ℕ)
      all : done ++ p ∷ left ≡ ps
      planned : planned_in x.state ≡ parts_in read done
      listed : Contains (ids_of x.state 0) id
      received : received_in x.state id ≡ p
      rest : AtRest k x.state

    -- the first package
    first-turn : (x : FitState read) (id : ℕ) (ids : List ℕ) (done : List (List ℕ)) → NoOther x.state.session
        → mine_in x.state ≡ None → done ++ [] ≡ ps → Hold N x (id ∷ ids) done → IsTurn x id
    first-turn x id ids [] own none all hold = absurd hold
    first-turn x id ids (p ∷ left) own none all hold =
        let e = no-session x.state own none in
        record {
          done = [];
          p = p;
          left = left;
          all = sym (append-nil (p ∷ left)) ∙ all;
          planned = none-planned x.state e;
          listed = hold.0;
          received = hold.1;
          rest = inl e;
        }

    -- a later one
    later-turn : (x : FitState read) (id : ℕ) (ids : List ℕ) (done left : List (List ℕ))
        → Has N x k (parts_in read done) → is_at_work x.state ≡ false → done ++ left ≡ ps
        → Hold N x (id ∷ ids) left → IsTurn x id
    later-turn x id ids done [] has rest all hold = absurd hold
    later-turn x id ids done (p ∷ left) has rest all hold = elim has.planned [
      | inl ready ↦
          record {
            done = done;
            p = p;
            left = left;
            all = all;
            planned = ready.1;
            listed = hold.0;
            received = hold.1;
            rest = inr (has.mine, ready.0);
          }
      | inr busy ↦ absurd (at-work k x.state has.mine busy.0 rest)
    ]

    turn : (x : FitState read) (id : ℕ) (ids : List ℕ) (taken : ℕ) → IsAt N x k ps (AtProcess (id ∷ ids) taken)
        → NoOther x.state.session → is_at_work x.state ≡ false → IsTurn x id
    turn x id ids zero at own rest = first-turn x id ids at.done own at.none at.all at.hold
    turn x id ids (suc taken) at own rest = later-turn x id ids at.done at.left at.has rest at.all at.hold

    -- the parts of all packages, where the next is one of them
    parts-by : (done : List (List ℕ)) (p : List ℕ) (left : List (List ℕ)) (parts : List (Part Bytes))
        → done ++ p ∷ left ≡ ps → parts ≡ parts_read (read p)
        → parts_in read ps ≡ parts_in read done ++ (parts ++ parts_in read left)
    parts-by done p left parts all same =
        ap (parts_in read) (sym all)
        ∙ (flat_map-append (λ (bytes : List ℕ). parts_read (read bytes)) done (p ∷ left)
        ∙ ap (λ (q : List (Part Bytes)). parts_in read done ++ (q ++ parts_in read left)) (sym same))

    -- ProcessSwPackage
    process-accepted : (x : FitState read) (id : ℕ) (ids : List ℕ) (taken : ℕ)
        → all_apply clusters (parts_in read ps) ≡ true → IsAt N x k ps (AtProcess (id ∷ ids) taken)
        → IsCalm clusters x.state (AtProcess (id ∷ ids) taken) → is_at_work x.state ≡ false
        → IsAccepted x (ProcessSwPackage id k)
    process-accepted x id ids taken applies at calm rest =
        rw (session, found) (package-passes x.state k t tag phase passes)
      where
        n : IsTurn x id
        n = turn x id ids taken at calm.own rest

        t : Transfer
        t = (there x id n.listed).0

        found : transfer_of x.state 0 id ≡ Some t
        found = (there x id n.listed).1

        phase : t.header.phase ≡ Transferred
        phase =
            let number = (found-is 0 id x.state.transfers t found).0 in
            let next = calm.by.counts.0 in
            find-all (λ t. taken < t.header.id → t.header.phase ≡ Transferred) _ x.state.transfers t calm.by.each found
            (omega (arith, number, next))

        parts : t.parts ≡ parts_read (read n.p)
        parts = read-parts x id t found phase ∙ ap (λ (bytes : List ℕ). parts_read (read bytes)) n.received

        all : parts_in read ps ≡ parts_in read n.done ++ (t.parts ++ parts_in read n.left)
        all = parts-by n.done n.p n.left t.parts n.all parts

        runs : x.state.running ≡ clusters
        runs = running-saved k x.state x.fit.consistent n.rest ∙ calm.saved

        passes : parts_refusal x.state.running (changes_in x.state) [] t.parts ≡ None
        passes =
            subst (λ (cs : List (Cluster Bytes)). parts_refusal cs (changes_in x.state) [] t.parts ≡ None) (sym runs)
            (passes-in-turn clusters (changes_in x.state) (parts_in read n.done) t.parts (parts_in read n.left)
            n.planned
            (subst (λ (q : List (Part Bytes)). all_differ (map cluster_of q) ≡ true) all whole.differ)
            (subst (λ (q : List (Part Bytes)). parts_refusal {D = Bytes} clusters [] [] q ≡ None) all
            (is-none _ applies)))

        session : first_refusal (session_refusals x.state 0 (ProcessSwPackage id k)) ≡ None
        session = process-session k x.state id x.fit.consistent calm.own n.rest

        tag : is_wrong_tag x.state 0 k ≡ false
        tag = tag-passes x.state k low calm.own (tag-of k x.state n.rest)

    -- what would run after the planned changes
    plan-of : (s : NodeState) (y : Session) → s.session ≡ Some y → saved_or_running s ≡ clusters
        → planned_in s ≡ parts_in read ps → planned_clusters s ≡ planned (changes_of 0 (parts_in read ps)) clusters
    plan-of s y e saved plan = grind (arith, same-plan)

    -- Activate
    activate-accepted : (x : FitState read) → all_met clusters (parts_in read ps) ≡ true → Has N x k (parts_in read ps)
        → IsCalm clusters x.state AtActivate → is_at_work x.state ≡ false → IsAccepted x Activate
    activate-accepted x met has calm rest = elim has.planned [
      | inl ready ↦
          (let y = mine-some x.state k has.mine in
          let plan = plan-of x.state y.0 y.1 calm.saved ready.1 in
          let needs : activate_refusal x.state ≡ None = rw (plan, is-none _ met) refl in
          rw (activate-session k x.state calm.own has.mine ready.0) needs)
      | inr busy ↦ absurd (at-work k x.state has.mine busy.0 rest)
    ]

    -- a call that waits for the units of client 0's session
    abbrev WaitsFor : FitState read → CallNo → Reply → Call → Type 0
    WaitsFor x at r call = (needs_rest (Numbered 0 at call r) && is_at_work x.state) ≡ false

    -- each call of the rounds
    pub not-refused : (x : FitState read) (stage : Stage) (call : Call) (at : CallNo) (r : Reply)
        → all_apply clusters (parts_in read ps) ≡ true → all_met clusters (parts_in read ps) ≡ true
        → call_at k stage ≡ Some call → IsAt N x k ps stage → IsCalm clusters x.state stage
        → (needs_rest (Numbered 0 at call r) && is_at_work x.state) ≡ false
        → refusal x.state 0 call (verdict_for read x.state 0 call) ≡ None
    not-refused x AtSync call number r applies met e at calm rest =
        let q : Sync ≡ call = cc e in
        subst (IsAccepted x) q refl
    not-refused x (AtStart ids (p ∷ left)) call number r applies met e at calm rest =
        let q : TransferStart (length p) ≡ call = cc e in
        subst (IsAccepted x) q (start-accepted x ids p left at calm.by)
    not-refused x (AtData ids id counter [] left) call number r applies met e at calm rest =
        let q : TransferExit id ≡ call = cc e in
        subst (IsAccepted x) q (exit-accepted x ids id counter left at calm.by)
    not-refused x (AtData ids id counter (b ∷ bs) left) call number r applies met e at calm rest =
        let q : TransferData id counter (take block_limit (b ∷ bs)) ≡ call = cc e in
        subst (IsAccepted x) q (data-accepted x ids id counter b bs left at calm.by)
    not-refused x (AtProcess (id ∷ ids) taken) call number r applies met e at calm rest =
        let q : ProcessSwPackage id k ≡ call = cc e in
        let still = subst (WaitsFor x number r) (sym q) rest in
        subst (IsAccepted x) q (process-accepted x id ids taken applies at calm still)
    not-refused x AtActivate call number r applies met e at calm rest =
        let q : Activate ≡ call = cc e in
        subst (IsAccepted x) q (activate-accepted x met at calm (subst (WaitsFor x number r) (sym q) rest))
    not-refused x _ call number r applies met e at calm rest = absurd (cc e)
