-- From the decision Commit on: a session that is Activated for the campaign ends as New, once.
use Rattle.world.proofs.Names.{arith, ◌≡◌, ◌⊎◌, inl, inr, if◌then◌else◌, ◌&&◌, ◌||◌, ℕ, List, [], ◌∷◌, Option, Some}
use Rattle.world.proofs.Names.{Bool, true, false, refl, sym, ◌∙◌, subst, New, Status, Activated, CleaningUp, Commit}
use Rattle.world.proofs.Names.{Call, Sync, DeleteTransfer, Finish, is_status, Message, is_sync, end_call_at, delete_at}
use Rattle.world.proofs.Names.{◌≢◌, ◌++◌, ◌≤◌, None, is_some, ap, nat_tests, flat_map, Decision, CampaignResult}
use Rattle.world.proofs.Names.{Successful, Fold, Current, flag_of, all_ended, is_result_of, IsBelow, Told, IsIn}
use Rattle.world.proofs.Names.{Packages, last_status, last_shown, next_number, MaySend, MaySendBy, MaySendLate}
use Rattle.world.proofs.Rules.{NodeRules, NodeLaws, Move, Delivered, Foreign, Unit_done, after, Spans, spans}
use Rattle.world.proofs.Rules.{begins_span, IsNew, delivered, NodeWorld, state_of}
use Rattle.world.proofs.Invariant.{carried, delivered-cases, Executable, KeptOld, KeptFold}
use Rattle.world.proofs.Events.{above-last, begins-mine}
use Rattle.world.proofs.Records.{flagged-ended, SameFold, some-inj, in-append}

-- a call that is sent after Commit
abbrev pub IsCalm : Call → Type 0
IsCalm call = (call ≡ Sync) ⊎ ((call ≡ Finish) ⊎ ((id : ℕ) × (call ≡ DeleteTransfer id)))

pub late-commit : (call : Call) (o : Option Status) (shown : Option _)
    → (is_sync call || (end_call_at Commit o call || delete_at shown call)) ≡ true → IsCalm call
late-commit x y shown e = grind arith

module _ (N : NodeRules) (laws : NodeLaws N) (k : ℕ) (changes : List N.Change) where
  -- the campaign's session waits for Finish, or is being cleaned up after it
  pub record Waits (s : N.State) : Type 0 where
    pub mine : N.mine s ≡ Some k
    pub status : (N.status s ≡ Activated) ⊎ ((N.status s ≡ CleaningUp) × (N.outcome s ≡ Some New))
    pub planned : N.planned s ≡ changes

  pub record IsWaiting (moves : List (Move N)) : Type 0 where
    pub waits : Waits (after N moves)
    pub is_open : (spans N k moves).is_open ≡ true
    pub none : (spans N k moves).ended ≡ []

  pub waits-judge : (s : N.State) (call : Call) → IsCalm call → Waits s → Waits (N.judge s call).0
  waits-judge s call calm w = grind (arith, finished, laws.sync_state, laws.delete_session)
    where
      finished : Waits (N.judge s Finish).0
      finished =
          grind (
            arith,
            carried N laws s Finish (inr (inl refl)),
            laws.finish_mine s,
            laws.finish_new.only s,
            laws.finish_old.only s,
          )

  pub waiting-delivered : (moves : List (Move N)) (m : Message) → (Executable N (after N moves) m → IsCalm m.call)
      → IsWaiting moves → IsWaiting (Delivered m ∷ moves)
  waiting-delivered moves m calm w =
      grind (arith, after, waits-on, begins_span)
    where
      waits-on : Waits (delivered N (after N moves) m.at m.call)
      waits-on =
          delivered-cases N laws (after N moves) m.at m.call Waits w.waits
          (λ p q. let on = waits-judge (after N moves) m.call (calm (above-last m.at (N.last (after N moves)) p q))
          w.waits in
          grind (arith, laws.keep_session, on))

  -- a unit goes on waiting, or ends the one span as New
  pub waiting-unit : (moves : List (Move N)) (passed : Bool) → IsWaiting moves
      → IsWaiting (Unit_done passed ∷ moves) ⊎ IsNew N k changes (Unit_done passed ∷ moves)
  waiting-unit moves passed w = elim w.waits.status [ inl a ↦ inl (waiting a) | inr c ↦ inr (ends c.0 c.1) ]
    where
      shut_spans : (b : Bool) → (spans N k moves).is_open ≡ true → b ≡ true → (z : Spans N)
          → (if ((spans N k moves).is_open && b) then z else spans N k moves) ≡ z
      shut_spans b o e z =
          subst (λ c. (if ((spans N k moves).is_open && c) then z else spans N k moves) ≡ z) (sym e)
          (subst (λ c. (if (c && true) then z else spans N k moves) ≡ z) (sym o) refl)

      waiting : N.status (after N moves) ≡ Activated → IsWaiting (Unit_done passed ∷ moves)
      waiting a = grind arith

      ends : N.status (after N moves) ≡ CleaningUp → N.outcome (after N moves) ≡ Some New
          → IsNew N k changes (Unit_done passed ∷ moves)
      ends c o =
          let closes' : is_status (N.status (after N moves)) CleaningUp ≡ true = rw c refl in
          let e = shut_spans (is_status (N.status (after N moves)) CleaningUp) w.is_open closes'
          (record {
            is_open = false;
            ended = record {
              outcome = N.outcome
                  (after N moves);
              before = after N moves;
              left = N.unit (after N moves) passed;
            } ∷
                (spans N k moves).ended;
          }) in
          record {
            span =
                record {
                  outcome = N.outcome (after N moves);
                  before = after N moves;
                  left = N.unit (after N moves)
                      passed;
                };
            only =
                subst (λ l. spans N k (Unit_done passed ∷ moves)
                ≡ record {
                  is_open = false;
                  ended = record {
                    outcome = N.outcome
                        (after N moves);
                    before = after N moves;
                    left = N.unit (after N moves) passed;
                  } ∷ l;
                }) w.none e;
            outcome = o;
            brings =
                subst (λ l. N.Brings l (after N moves) (N.unit (after N moves) passed)) w.waits.planned
                (laws.cleaning_new (after N moves) passed k w.waits.mine c o);
          }

  -- what has ended as New stays so while no delivery begins a span of this tag
  pub new-foreign : (moves : List (Move N)) (call : N.ForeignCall) → IsNew N k changes moves
      → IsNew N k changes (Foreign call ∷ moves)
  new-foreign moves call h = record { span = h.span; only = h.only; outcome = h.outcome; brings = h.brings }

  pub new-unit : (moves : List (Move N)) (passed : Bool) → IsNew N k changes moves
      → IsNew N k changes (Unit_done passed ∷ moves)
  new-unit moves passed h =
      record {
        span = h.span;
        only =
            subst (λ y.
            (if (y.is_open && is_status (N.status (after N moves)) CleaningUp)
            then record {
              is_open = false;
              ended = record {
                outcome = N.outcome
                    (after N moves);
                before = after N moves;
                left = N.unit (after N moves) passed;
              } ∷ y.ended;
            } else y)
            ≡ record { is_open = false; ended = h.span ∷ [] }) (sym h.only) refl;
        outcome = h.outcome;
        brings = h.brings;
      }

  pub new-delivered : (moves : List (Move N)) (m : Message) → begins_span N k (after N moves) m ≡ false
      → IsNew N k changes moves → IsNew N k changes (Delivered m ∷ moves)
  new-delivered moves m no_begin h =
      record { span = h.span; only = grind (arith, begins_span, after); outcome = h.outcome; brings = h.brings }

-- What every event keeps of the half for successful campaigns, from the decision Commit on.
bool-cases : (b : Bool) → (b ≡ true → ⊥) → b ≡ false
bool-cases true f = absurd (f refl)
bool-cases false f = refl

module _ (N : NodeRules) (laws : NodeLaws N) (packages : Packages) (n : ℕ) where
  abbrev pub changes_of : ℕ → List N.Change
  changes_of k = flat_map N.changes_of (packages k n)

  pub record KeptCommitted (f : Fold) (x : NodeWorld N) : Type 0 where
    pub calm : (c : Current) → f.current ≡ Some c → c.decision ≡ Some Commit → (m : Message) → IsIn m x.sent
        → Executable N (state_of N x) m → IsCalm m.call
    pub committed : (c : Current) → f.current ≡ Some c → c.decision ≡ Some Commit → flag_of c.named n ≡ true
        → IsWaiting N laws c.campaign (changes_of c.campaign) x.moves
        ⊎ IsNew N c.campaign (changes_of c.campaign) x.moves
    pub entered : (k : ℕ) → IsIn (k, Successful) f.earlier → 1 ≤ n → n ≤ 8 → packages k n ≢ []
        → IsNew N k (changes_of k) x.moves

  exec-back : (s : N.State) (m m' : Message) → Executable N (delivered N s m.at m.call) m' → Executable N s m'
  exec-back s m m' = grind (arith, nat_tests)

  calm-begins : (k : ℕ) (s : N.State) (m : Message) → (Executable N s m → IsCalm m.call) → begins_span N k s m ≡ false
  calm-begins k s m calm = grind arith

  pub committed-deliver : (f : Fold) (x : NodeWorld N) (m : Message) → IsIn m x.sent → KeptFold f
      → KeptOld N f n (record { moves = Delivered m ∷ x.moves; sent = x.sent; told = x.told }) → KeptCommitted f x
      → KeptCommitted f (record { moves = Delivered m ∷ x.moves; sent = x.sent; told = x.told })
  committed-deliver f x m sent fold old kept =
      record {
        calm = λ c current commit m' h exec. kept.calm c current commit m' h (exec-back (state_of N x) m m' exec);
        committed = λ c current commit named.
            elim (kept.committed c current commit named) [
              | inl w ↦ inl
                  (waiting-delivered N laws c.campaign (changes_of c.campaign) x.moves m
                  (kept.calm c current commit m sent) w)
              | inr h ↦ inr
                  (new-delivered N laws c.campaign (changes_of c.campaign) x.moves m
                  (calm-begins c.campaign (state_of N x) m (kept.calm c current commit m sent)) h)
            ];
        entered = λ k earlier low high named.
            new-delivered N laws k (changes_of k) x.moves m
            (bool-cases (begins_span N k (state_of N x) m) (λ e.
            let p = old.session k (begins-mine N laws f n k (state_of N x) m.at m.call e) in
            fold.above p.0 p.1 k Successful earlier p.4))
            (kept.entered k earlier low high named);
      }

  pub committed-foreign : (f : Fold) (x : NodeWorld N) (call : N.ForeignCall) → KeptCommitted f x
      → KeptCommitted f (record { moves = Foreign call ∷ x.moves; sent = x.sent; told = x.told })
  committed-foreign f x call kept =
      record {
        calm =
            λ c current commit m h exec. kept.calm c current commit m h
            (subst (λ l. IsBelow l m.at) (laws.foreign_last (state_of N x) call).0 exec);
        committed = λ c current commit named. grind (arith, new-foreign);
        entered =
            λ k earlier low high named. new-foreign N laws k (changes_of k) x.moves call
            (kept.entered k earlier low high named);
      }

  pub committed-unit : (f : Fold) (x : NodeWorld N) (passed : Bool) → KeptCommitted f x
      → KeptCommitted f (record { moves = Unit_done passed ∷ x.moves; sent = x.sent; told = x.told })
  committed-unit f x passed kept =
      record {
        calm =
            λ c current commit m h exec. kept.calm c current commit m h
            (subst (λ l. IsBelow l m.at) (laws.unit_last (state_of N x) passed).0 exec);
        committed = λ c current commit named.
            elim (kept.committed c current commit named) [
              | inl w ↦ waiting-unit N laws c.campaign (changes_of c.campaign) x.moves passed w
              | inr h ↦ inr (new-unit N laws c.campaign (changes_of c.campaign) x.moves passed h)
            ];
        entered =
            λ k earlier low high named. new-unit N laws k (changes_of k) x.moves passed
            (kept.entered k earlier low high named);
      }

  pub committed-send : (f : Fold) (x : NodeWorld N) (c : Current) (call : Call) → f.current ≡ Some c
      → MaySend packages f.epoch n c x.told x.sent call → KeptCommitted f x
      → KeptCommitted f
      (record {
        moves = x.moves;
        sent = record
            { at = next_number f.epoch x.sent; call = call; campaign = c.campaign; decided = is_some c.decision }
            ∷ x.sent;
        told = x.told;
      })
  committed-send f x c call current may kept =
      record {
        calm = λ c' current' commit m h exec.
            elim h [
              | inl e ↦
                  (let same : c' ≡ c = some-inj c' c (sym current' ∙ current) in
                  let w : c.decision ≡ Some Commit = sym (ap (λ y. y.decision) same) ∙ commit in
                  let late : MaySendLate f.epoch n c Commit x.told call = subst
                  (λ o. MaySendBy packages f.epoch n c o x.told x.sent call) w may.by in
                  subst (λ y. IsCalm y) (sym (ap (λ y. y.call) e))
                  (late-commit call (last_status c.campaign f.epoch x.told) (last_shown c.campaign f.epoch x.told)
                  late.allowed))
              | inr h' ↦ kept.calm c' current' commit m h' exec
            ];
        committed = kept.committed;
        entered = kept.entered;
      }

  pub committed-told : (f : Fold) (x : NodeWorld N) (told : List Told) → KeptCommitted f x
      → KeptCommitted f (record { moves = x.moves; sent = x.sent; told = told })
  committed-told f x told kept = record { calm = kept.calm; committed = kept.committed; entered = kept.entered }

  pub committed-same : (f g : Fold) (x : NodeWorld N) → SameFold n f g → KeptCommitted f x → KeptCommitted g x
  committed-same f g x same kept =
      record {
        calm = λ d current commit. let b = same.back d current in kept.calm b.0 b.1 (sym b.2.decision ∙ commit);
        committed = λ d current commit named. grind arith;
        entered =
            λ k earlier low high named. kept.entered k (subst (λ l. IsIn (k, Successful) l) same.earlier earlier)
            low high named;
      }

  pub committed-ended : (f : Fold) (x : NodeWorld N) (c d : Current) → f.current ≡ Some c → d.campaign ≡ c.campaign
      → d.named ≡ c.named → d.decision ≡ c.decision → KeptCommitted f x
      → KeptCommitted (record f { current = Some d }) x
  committed-ended f x c d e campaign named decision kept =
      record {
        calm =
            λ y current commit. kept.calm c e (sym decision ∙ (ap (λ z. z.decision) (some-inj d y current) ∙ commit));
        committed = λ y current commit flag.
            let same = some-inj d y current in
            subst (λ k. IsWaiting N laws k (changes_of k) x.moves ⊎ IsNew N k (changes_of k) x.moves) (sym campaign
            ∙ ap (λ z. z.campaign) same)
            (kept.committed c e (sym decision ∙ (ap (λ z. z.decision) same ∙ commit)) (sym (ap (λ z. flag_of z n) named)
            ∙ (ap (λ z. flag_of z.named n) same ∙ flag)));
        entered = kept.entered;
      }

  -- what is owed at the decision: each named node is Activated for the campaign and nothing is executable there
  pub record IsReadyToCommit (c : Current) (x : NodeWorld N) : Type 0 where
    pub waiting : flag_of c.named n ≡ true → IsWaiting N laws c.campaign (changes_of c.campaign) x.moves
    pub quiet : (m : Message) → IsIn m x.sent → Executable N (state_of N x) m → ⊥

  pub committed-decide : (f : Fold) (x : NodeWorld N) (c : Current) (d : Decision) → f.current ≡ Some c
      → (d ≡ Commit → IsReadyToCommit c x) → KeptCommitted f x
      → KeptCommitted (record { epoch = f.epoch; earlier = f.earlier; current = Some (record c { decision = Some d }) })
      x
  committed-decide f x c d current ready kept =
      record {
        calm = λ c' current' commit m h exec. absurd ((ready (is_commit c' current' commit)).quiet m h exec);
        committed = λ c' current' commit named. grind (arith, some-inj);
        entered = kept.entered;
      }
    where
      is_commit : (c' : Current) → Some (record c { decision = Some d }) ≡ Some c' → c'.decision ≡ Some Commit
          → d ≡ Commit
      is_commit c' e commit =
          let q : Some d ≡ Some Commit = ap (λ y. y.decision) (some-inj (record c { decision = Some d }) c' e)
          ∙ commit in cc q

  pub committed-enter : (f : Fold) (x : NodeWorld N) (c : Current) (r : CampaignResult) → f.current ≡ Some c
      → (1 ≤ n → n ≤ 8 → packages c.campaign n ≢ [] → flag_of c.named n ≡ true) → all_ended c ≡ true
      → is_result_of c.decision r ≡ true → KeptOld N f n x → KeptCommitted f x
      → KeptCommitted (record { epoch = f.epoch; earlier = f.earlier ++ (c.campaign, r) ∷ []; current = None }) x
  committed-enter f x c r current names ended result old kept =
      record {
        calm = λ c' current'. absurd (cc current');
        committed = λ c' current'. absurd (cc current');
        entered = λ k earlier low high named.
            elim (in-append (k, Successful) f.earlier (c.campaign, r) earlier) [
              | inl h ↦ kept.entered k h low high named
              | inr e ↦
                  (let k_is : k ≡ c.campaign = ap (λ y. y.0) e in
                  let r_is : Successful ≡ r = ap (λ y. y.1) e in
                  let flag = names low high (subst (λ j. packages j n ≢ []) k_is named) in
                  let commit = success c.decision (subst (λ y. is_result_of c.decision y ≡ true) (sym r_is) result) in
                  subst (λ j. IsNew N j (changes_of j) x.moves) (sym k_is)
                  (elim (kept.committed c current commit flag) [ inl w ↦ absurd (waits_no_more w) | inr h ↦ h ]))
            ];
      }
    where
      success : (o : Option Decision) → is_result_of o Successful ≡ true → o ≡ Some Commit
      success (Some Commit) e = refl
      success _ e = absurd (cc e)

      waits_no_more : IsWaiting N laws c.campaign (changes_of c.campaign) x.moves → ⊥
      waits_no_more w = grind (arith, flagged-ended)
