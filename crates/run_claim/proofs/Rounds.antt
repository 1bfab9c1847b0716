-- After all calls of the rounds, none refused, a node's session plans the changes of all packages, and its one span is
-- open.
use Rattle.std.specs.List.{list_all}
use Rattle.std.proofs.lemmas.Bool.Decides.{nat_tests}
use Rattle.world.proofs.Names.{◌≡◌, ◌≢◌, ◌⊎◌, inl, inr, ℕ, zero, suc, ◌<◌, Bool, true, false, not, ◌&&◌, ◌||◌, if◌then◌else◌, nat_eq, List, [], ◌∷◌, map, length, take, Option, Some, None}
use Rattle.world.proofs.Names.{and_parts, eq-eqb, refl, sym, ap, subst, ◌∙◌, arith, CallNo, Call, Reply, Status, Entry, NodeState}
use Rattle.world.proofs.Names.{Sync, TransferStart, TransferData, TransferExit, ProcessSwPackage, Activate, Done, Started, Refused}
use Rattle.world.proofs.Names.{block_limit, Idle, CleaningUp, Reading, after_entry, state_after, verdict_for, after_call, append_assoc}
use Rattle.world.proofs.Names.{is_status, is_done, has_tag, Spans, span_step, span_of, Fits, round_calls, slice_get, Stage, AtSync, AtStart, AtData, AtProcess, AtActivate, Over, RefusedOnce, call_at, onward}
use Rattle.pm_types.specs.declared.history.Entry.TheVariants.{Numbered, Unit as UnitDone}
use Rattle.pm_types.specs.Histories.{IsLegal, IsNext}
use Rattle.campaign_core.specs.Campaign.{nothing_yet}
use Rattle.world.specs.Messages.{is_refusal}
use Rattle.world.specs.Spans.{spans_from}
use Rattle.world.proofs.Rules.{NodeRules, NodeLaws}
use Rattle.world.proofs.Instance.{Calls, ForeignCall, mine_in, judged_in, kept_after}
use Rattle.world.proofs.FitLaws.{KeepsNode, FitState, fit, fit-laws, state-is, unit-is}
use Rattle.world.proofs.Invariant.{none-judge, some-judge}
use Rattle.world.proofs.Events.{unit-mine, unit-back, is-cleaning}
use Rattle.world.proofs.EarlyFacts.{IsAt, at-foreign, at-unit, at-keep, at-judge}
use Rattle.world.proofs.RoundList.{rest_of, one-on, IsReached, reached-on, processed-is}
use Rattle.run_claim.specs.Masters.{made_by}
use Rattle.sub_core.specs.Made.{Made, ids_given}
use Rattle.run_claim.proofs.OldNodes.{stepped, replied, others, begun}

-- the first of the calls that are left is the stage's
pub first-any : (k : ℕ) (ps : List (List ℕ)) (stage : Stage) (later : List ℕ) → IsReached k ps stage
    → call_at k stage ≡ slice_get (rest_of k ps stage later) 0
first-any k ps stage later h = grind arith

-- where none is left, the rounds are over
pub none-left : (k : ℕ) (ps : List (List ℕ)) (stage : Stage) → IsReached k ps stage → [] ≡ rest_of k ps stage []
    → stage ≡ Over
none-left k ps AtSync h e = absurd (cc e)
none-left k ps (AtStart ids []) h e = absurd h
none-left k ps (AtStart ids (p ∷ left)) h e = absurd (cc e)
none-left k ps (AtData ids id counter [] left) h e = absurd (cc e)
none-left k ps (AtData ids id counter (b ∷ bs) left) h e = absurd (cc e)
none-left k ps (AtProcess [] taken) h e = absurd h
none-left k ps (AtProcess (id ∷ ids) taken) h e = absurd (cc e)
none-left k ps AtActivate h e = absurd (cc e)
none-left k ps Over h e = refl
none-left k ps RefusedOnce h e = absurd h

not-true : (b : Bool) → not b ≡ true → b ≡ false
not-true true e = absurd (cc e)
not-true false e = refl

pub tail : (a b : Call) (cs ds : List Call) → a ∷ cs ≡ b ∷ ds → cs ≡ ds
tail a b cs ds e = cc e

all-three : (a b c : Bool) → a ≡ true → b ≡ true → c ≡ true → (a && (b && c)) ≡ true
all-three true true true p q r = refl
all-three true true false p q r = absurd (cc r)
all-three true false c p q r = absurd (cc q)
all-three false b c p q r = absurd (cc p)

module _ (read : Reading) (keeps : KeepsNode read []) (k : ℕ) (ps : List (List ℕ)) (some : ps ≢ []) where
  abbrev N : NodeRules
  N = fit read [] keeps

  laws : NodeLaws (fit read [] keeps)
  laws = fit-laws read [] keeps

  -- a reply that fits its stage, or refuses
  abbrev Suits : FitState read → Stage → Call → Type 0
  Suits x stage c = (y : Reply) × ((judged_in read x.state c).1 ≡ y) × ((is_refusal y ≡ true) ⊎ Fits stage y)

  suits : (x : FitState read) (stage : Stage) (call : Call) → call_at k stage ≡ Some call → Suits x stage call
  suits x AtSync call e = let q : Sync ≡ call = cc e in subst (Suits x AtSync) q (_, laws.sync_reply x, inr tt)
  suits x (AtStart ids (p ∷ left)) call e =
      let q : TransferStart (length p) ≡ call = cc e in
      subst (Suits x (AtStart ids (p ∷ left))) q
      (elim (laws.start_replies x (length p))
      [ inl d ↦ (Started d.0, d.1, inr tt) | inr f ↦ (Refused f.0, f.1, inl refl) ])
  suits x (AtData ids id counter [] left) call e =
      let q : TransferExit id ≡ call = cc e in
      subst (Suits x (AtData ids id counter [] left)) q
      (elim (laws.exit_replies x id) [ inl d ↦ (Done, d, inr tt) | inr f ↦ (Refused f.0, f.1, inl refl) ])
  suits x (AtData ids id counter (b ∷ bs) left) call e =
      let q : TransferData id counter (take block_limit (b ∷ bs)) ≡ call = cc e in
      subst (Suits x (AtData ids id counter (b ∷ bs) left)) q
      (elim (laws.data_replies x id counter (take block_limit (b ∷ bs)))
      [ inl d ↦ (Done, d, inr tt) | inr f ↦ (Refused f.0, f.1, inl refl) ])
  suits x (AtProcess (id ∷ ids) taken) call e =
      let q : ProcessSwPackage id k ≡ call = cc e in
      subst (Suits x (AtProcess (id ∷ ids) taken)) q
      (elim (laws.process_replies x id k) [ inl d ↦ (Done, d, inr tt) | inr f ↦ (Refused f.0, f.1, inl refl) ])
  suits x AtActivate call e =
      let q : Activate ≡ call = cc e in
      subst (Suits x AtActivate) q
      (elim (laws.six_replies x Activate (inl refl))
      [ inl d ↦ (Done, d, inr tt) | inr f ↦ (Refused f.0, f.1, inl refl) ])
  suits x _ call e = absurd (cc e)

  -- an accepted call of a stage has a reply that fits it
  pub fits : (x : FitState read) (stage : Stage) (call : Call) (r : Reply) → call_at k stage ≡ Some call
      → (judged_in read x.state call).1 ≡ r → is_refusal r ≡ false → Fits stage r
  fits x stage call r e j f = go (suits x stage call e)
    where
      go : Suits x stage call → Fits stage r
      go (y, is, inl bad) =
          absurd (let same : y ≡ r = sym is ∙ j in
          let z : is_refusal r ≡ true = subst (λ (y : Reply). is_refusal y ≡ true) same bad in cc (z, f))
      go (y, is, inr good) = subst (Fits stage) (sym is ∙ j) good

  -- what is kept through the rounds
  pub record InRounds (x : FitState read) (stage : Stage) (sp : Spans) : Type 0 where
    pub at : IsAt (fit read [] keeps) x k ps stage
    pub reached : IsReached k ps stage
    pub none : sp.ended ≡ []
    pub opens : sp.is_open ≡ true → mine_in x.state ≡ Some k
    pub open_too : mine_in x.state ≡ Some k → sp.is_open ≡ true

  -- no session of the rounds is being cleaned up
  not-cleaning : (x : FitState read) (stage : Stage) → IsAt (fit read [] keeps) x k ps stage → mine_in x.state ≡ Some k
      → x.state.status ≡ CleaningUp → ⊥
  not-cleaning x stage h m c = grind arith

  -- a call that begins client 0's session begins the span
  begins-span : (x : FitState read) (call : Call) (r : Reply) → (judged_in read x.state call).1 ≡ r
      → mine_in x.state ≡ None → mine_in (N.judge x call).0.state ≡ Some k
      → (has_tag k call && (is_status x.state.status Idle && is_done r)) ≡ true
  begins-span x (ProcessSwPackage id tag) r e none m = elim (laws.process_replies x id tag) [
    | inl d ↦
        (let p = laws.process_idle x id tag none d in
        let same : tag ≡ k = (let q = p.1 in cc (q, m)) in
        all-three _ _ _ (eq-eqb tag k same) (subst (λ (s : Status). is_status s Idle ≡ true) (sym p.0) refl)
        (subst (λ (y : Reply). is_done y ≡ true) (sym d ∙ e) refl))
    | inr f ↦ absurd (let stays : mine_in (N.judge x (ProcessSwPackage id tag)).0.state ≡ None =
        ap (λ (y : FitState read). mine_in y.state) (laws.refused x (ProcessSwPackage id tag) f.0 f.1) ∙ none in
        cc (stays, m))
  ]
  begins-span x call r e none m =
      absurd (let stays : mine_in (N.judge x call).0.state ≡ None = none-judge N laws x call (λ i t z. cc z) none in
      cc (sym stays ∙ m))

  -- and none other does
  ends-none : (x : FitState read) (call : Call) (r : Reply) → (judged_in read x.state call).1 ≡ r
      → (has_tag k call && (is_status x.state.status Idle && is_done r)) ≡ true
      → mine_in (N.judge x call).0.state ≡ Some k
  ends-none x call r e q = begun read keeps k x call r e q

  -- what one entry keeps
  unit-in : (x : FitState read) (passed : Bool) (after : Status) (stage : Stage) (sp : Spans) → InRounds x stage sp
      → (y : FitState read) × (y.state ≡ after_entry read x.state (UnitDone passed after))
      × InRounds y stage (span_step k x.state (after_entry read x.state (UnitDone passed after))
      (UnitDone passed after) sp)
  unit-in x passed after stage sp h =
      (y, unit-is read [] keeps x passed, go (is_status x.state.status CleaningUp) sp.is_open refl refl)
    where
      y : FitState read
      y = N.unit x passed

      at : IsAt (fit read [] keeps) y k ps stage
      at = at-unit N laws x passed k ps stage h.at

      closes : sp.is_open ≡ true → is_status x.state.status CleaningUp ≡ true → ⊥
      closes o c = not-cleaning x stage h.at (h.opens o) (is-cleaning N laws nothing_yet 0 x.state.status c)

      stays : sp.is_open ≡ true → mine_in y.state ≡ Some k
      stays o =
          elim (unit-mine N laws nothing_yet 0 x passed k (h.opens o))
          [ inl m ↦ m | inr g ↦ absurd (not-cleaning x stage h.at (h.opens o) g.0) ]

      go : (b c : Bool) → is_status x.state.status CleaningUp ≡ b → sp.is_open ≡ c
          → InRounds y stage (if b && c
          then record {
            is_open = false;
            ended =
                span_of x.state (after_entry read x.state (UnitDone passed after)) ∷ sp.ended;
          }
          else record { is_open = c || false; ended = sp.ended })
      go true true p q = absurd (closes q p)
      go true false p q =
          record {
            at = at;
            reached = h.reached;
            none = h.none;
            opens = λ e. absurd (cc e);
            open_too =
                λ m. absurd (let o = h.open_too (unit-back N laws nothing_yet 0 x passed k m) in cc (o, q));
          }
      go false true p q =
          record { at = at; reached = h.reached; none = h.none; opens = λ e. stays q; open_too = λ m. refl }
      go false false p q =
          record {
            at = at;
            reached = h.reached;
            none = h.none;
            opens = λ e. absurd (cc e);
            open_too =
                λ m. absurd (let o = h.open_too (unit-back N laws nothing_yet 0 x passed k m) in cc (o, q));
          }

  foreign-in : (x : FitState read) (c : ℕ) (at : CallNo) (call : Call) (r : Reply) (stage : Stage) (sp : Spans)
      → IsNext read x.state (Numbered (suc c) at call r) → InRounds x stage sp
      → (y : FitState read) × (y.state ≡ after_entry read x.state (Numbered (suc c) at call r))
      × InRounds y stage (span_step k x.state (after_entry read x.state (Numbered (suc c) at call r))
      (Numbered (suc c) at call r) sp)
  foreign-in x c at call r stage sp next h = (
    y,
    stepped x.state (suc c) at call (verdict_for read x.state (suc c) call) r next.1,
    go (nat_eq (suc c) 0) (other c),
  )
    where
      bound : suc c < 32
      bound = next.0

      f : ForeignCall
      f = record { other = c; bound = omega (arith, bound); at = at; call = call }

      y : FitState read
      y = N.foreign x (Calls f)

      other : (n : ℕ) → nat_eq (suc n) 0 ≡ false
      other n = grind (arith, nat_tests)

      mine : (o : Option ℕ) → mine_in x.state ≡ o → mine_in y.state ≡ o
      mine None e = laws.foreign_none x (Calls f) e
      mine (Some t) e = (laws.foreign_session x (Calls f) t e).mine ∙ e

      or-not : (b : Bool) → (b || false) ≡ b
      or-not true = refl
      or-not false = refl

      go : (b : Bool) → b ≡ false
          → InRounds y stage (record {
            is_open = sp.is_open || (b && (has_tag k call && (is_status x.state.status Idle && is_done r)));
            ended =
                sp.ended;
          })
      go true e = absurd (cc e)
      go false e = record {
        at = at-foreign N laws x (Calls f) k ps stage h.at;
        reached = h.reached;
        none = h.none;
        opens = λ q. mine (Some k) (h.opens (sym (or-not sp.is_open) ∙ q));
        open_too = λ q. or-not sp.is_open ∙ h.open_too (sym (mine (mine_in x.state) refl) ∙ q);
      }

  own-in : (x : FitState read) (at : CallNo) (call : Call) (r : Reply) (stage : Stage) (sp : Spans)
      → IsNext read x.state (Numbered 0 at call r) → call_at k stage ≡ Some call → is_refusal r ≡ false
      → InRounds x stage sp
      → (y : FitState read) × (y.state ≡ after_entry read x.state (Numbered 0 at call r))
      × InRounds y (onward ps stage r)
      (span_step k x.state (after_entry read x.state (Numbered 0 at call r)) (Numbered 0 at call r) sp)
  own-in x at call r stage sp next is good h = (
    y,
    there,
    record {
      at = at-keep N laws (N.judge x call).0 at call (judged_in read x.state call).1 k ps (onward ps stage r) led;
      reached = reached-on k ps stage r some fit-in;
      none = h.none;
      opens = opened sp.is_open refl (has_tag k call && (is_status x.state.status Idle && is_done r)) refl;
      open_too = λ m. too sp.is_open refl (mine_in x.state) refl (sym kept ∙ m);
    },
  )
    where
      gave : (judged_in read x.state call).1 ≡ r
      gave = replied read x.state at call r next.1

      fit-in : Fits stage r
      fit-in = fits x stage call r is gave good

      y : FitState read
      y = N.keep (N.judge x call).0 at call (N.judge x call).1

      there : y.state ≡ after_entry read x.state (Numbered 0 at call r)
      there =
          ap (λ s. kept_after s at call (judged_in read x.state call).1) (state-is read [] keeps x call)
          ∙ ap (after_call x.state 0 at call (verdict_for read x.state 0 call)) gave

      kept : mine_in y.state ≡ mine_in (N.judge x call).0.state
      kept = (laws.keep_session (N.judge x call).0 at call (judged_in read x.state call).1).mine

      led : IsAt (fit read [] keeps) (N.judge x call).0 k ps (onward ps stage r)
      led = elim (at-judge N laws x k ps stage call is h.at) [
        | inl bad ↦ absurd (let z : onward ps stage r ≡ RefusedOnce =
            subst (λ (y : Reply). onward ps stage y ≡ RefusedOnce) gave bad in
            let w = subst (IsReached k ps) z (reached-on k ps stage r some fit-in) in w)
        | inr g ↦ subst (λ (y : Reply). IsAt (fit read [] keeps) (N.judge x call).0 k ps (onward ps stage y)) gave g
      ]

      opened : (b : Bool) → sp.is_open ≡ b → (c : Bool)
          → (has_tag k call && (is_status x.state.status Idle && is_done r)) ≡ c → (b || c) ≡ true
          → mine_in y.state ≡ Some k
      opened true e c f q = kept ∙ some-judge N laws x call k (h.opens e)
      opened false e true f q = kept ∙ ends-none x call r gave f
      opened false e false f q = absurd (cc q)

      too : (b : Bool) → sp.is_open ≡ b → (o : Option ℕ) → mine_in x.state ≡ o
          → mine_in (N.judge x call).0.state ≡ Some k
          → (b || (has_tag k call && (is_status x.state.status Idle && is_done r))) ≡ true
      too true e o f m = refl
      too false e None f m = begins-span x call r gave f m
      too false e (Some t) f m =
          absurd (let same : t ≡ k = (let j = some-judge N laws x call t f in cc (j, m)) in
          let o = h.open_too (f ∙ ap Some same) in cc (o, e))

  -- all entries, where the calls of client 0 are those that are left, none refused
  through : (es : List Entry) (s : NodeState) (x : FitState read) (stage : Stage) (sp : Spans) → x.state ≡ s
      → IsLegal read s es
      → map (λ m. m.call) (made_by 0 es) ≡ rest_of k ps stage (ids_given (made_by 0 es))
      → list_all (λ m. not (is_refusal m.reply)) (made_by 0 es) ≡ true → InRounds x stage sp
      → (y : FitState read) × (y.state ≡ state_after read s es) × InRounds y Over (spans_from read k s es sp)
  through [] s x stage sp at legal calls good h =
      (x, at, subst (λ (st : Stage). InRounds x st sp) (none-left k ps stage h.reached calls) h)
  through (UnitDone passed after ∷ es) s x stage sp at legal calls good h =
      let e = UnitDone passed after in
      let one = unit-in x passed after stage sp h in
      through es (after_entry read s e) one.0 stage (span_step k s (after_entry read s e) e sp)
      (one.1 ∙ ap (λ z. after_entry read z e) at) legal.1 calls good
      (subst (λ z. InRounds one.0 stage (span_step k z (after_entry read z e) e sp)) at one.2)
  through (Numbered (suc c) nr call r ∷ es) s x stage sp at legal calls good h =
      let e = Numbered (suc c) nr call r in
      let same = others c nr call r es in
      let one = foreign-in x c nr call r stage sp (subst (λ z. IsNext read z e) (sym at) legal.0) h in
      through es (after_entry read s e) one.0 stage (span_step k s (after_entry read s e) e sp)
      (one.1 ∙ ap (λ z. after_entry read z e) at) legal.1
      (subst (λ (ms : List Made). map (λ m. m.call) ms ≡ rest_of k ps stage (ids_given ms)) same calls)
      (subst (λ (ms : List Made). list_all (λ m. not (is_refusal m.reply)) ms ≡ true) same good)
      (subst (λ z. InRounds one.0 stage (span_step k z (after_entry read z e) e sp)) at one.2)
  through (Numbered zero nr call r ∷ es) s x stage sp at legal calls good h =
      let e = Numbered 0 nr call r in
      let is : call_at k stage ≡ Some call =
      first-any k ps stage (ids_given (made_by 0 (e ∷ es))) h.reached
      ∙ sym (ap (λ (l : List Call). slice_get l 0) calls) in
      let next = subst (λ z. IsNext read z e) (sym at) legal.0 in
      let parts = and_parts (not (is_refusal r)) _ good in
      let accepted = not-true (is_refusal r) parts.0 in
      let one = own-in x nr call r stage sp next is accepted h in
      let first =
      one-on k ps stage r (map (λ m. m.reply) (made_by 0 es)) some
      (fits x stage call r is (replied read x.state nr call r next.1) accepted) in
      through es (after_entry read s e) one.0 (onward ps stage r) (span_step k s (after_entry read s e) e sp)
      (one.1 ∙ ap (λ z. after_entry read z e) at) legal.1
      (tail call first.0 _ _ (calls ∙ first.2)) parts.1
      (subst (λ z. InRounds one.0 (onward ps stage r) (span_step k z (after_entry read z e) e sp)) at one.2)

  pub rounds-are : (ids : List ℕ) → round_calls k ids ps ≡ rest_of k ps AtSync ids
  rounds-are ids = grind (arith, processed-is, append_assoc)

  -- from a formatted node on
  pub after-rounds : (x : FitState read) (es : List Entry) → mine_in x.state ≡ None → IsLegal read x.state es
      → map (λ m. m.call) (made_by 0 es) ≡ round_calls k (ids_given (made_by 0 es)) ps
      → list_all (λ m. not (is_refusal m.reply)) (made_by 0 es) ≡ true
      → (y : FitState read) × (y.state ≡ state_after read x.state es)
      × InRounds y Over (spans_from read k x.state es (record { is_open = false; ended = [] }))
  after-rounds x es none legal calls good =
      through es x.state x AtSync (record { is_open = false; ended = [] }) refl legal
      (calls ∙ rounds-are (ids_given (made_by 0 es))) good
      (record {
        at = none;
        reached = tt;
        none = refl;
        opens = λ e. absurd (cc e);
        open_too =
            λ m. absurd (cc (none, m));
      })
