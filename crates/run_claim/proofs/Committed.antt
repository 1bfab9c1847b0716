-- From the evidence of a Yes on, calls of the end phase that don't go back end the one span as new.
use Rattle.std.specs.List.{list_all}
use Rattle.std.proofs.lemmas.Bool.Decides.{nat_tests}
use Rattle.world.proofs.Names.{◌≡◌, ◌⊎◌, inl, inr, ℕ, zero, suc, ◌<◌, Bool, true, false, not, ◌&&◌, ◌||◌, if◌then◌else◌, nat_eq, List, [], ◌∷◌, Some}
use Rattle.world.proofs.Names.{and_parts, refl, sym, ap, subst, ◌∙◌, arith, CallNo, Bytes, Call, Part, Reply, Status, New, Entry, NodeState}
use Rattle.world.proofs.Names.{Activated, CleaningUp, Idle, Reading, after_entry, state_after, verdict_for, after_call}
use Rattle.world.proofs.Names.{is_status, is_done, has_tag, Spans, Span, span_step, span_of, RunsNew, is_working}
use Rattle.pm_types.specs.declared.history.Entry.TheVariants.{Numbered, Unit as UnitDone}
use Rattle.pm_types.specs.Histories.{IsLegal, IsNext}
use Rattle.world.specs.Spans.{spans_from}
use Rattle.world.proofs.Rules.{NodeRules, NodeLaws, KeepsSession}
use Rattle.world.proofs.Instance.{Calls, ForeignCall, judged_in, kept_after, outcome_in}
use Rattle.world.proofs.FitLaws.{KeepsNode, FitState, fit, fit-laws, state-is, unit-is}
use Rattle.world.proofs.Committed.{IsCalm, Waits, waits-judge}
use Rattle.run_claim.specs.Masters.{made_by, goes_back}
use Rattle.sub_core.specs.Made.{Made, is_end_call}
use Rattle.run_claim.proofs.OldNodes.{stepped, replied, others}

-- whether a call is one of the end phase that doesn't go back
abbrev pub is_calm_call : Call → Bool
is_calm_call c = is_end_call c && not (goes_back c)

calm : (c : Call) → is_calm_call c ≡ true → IsCalm c
calm c e = grind arith

module _ (read : Reading) (keeps : KeepsNode read []) (k : ℕ) (parts : List (Part Bytes)) where
  abbrev N : NodeRules
  N = fit read [] keeps

  laws : NodeLaws (fit read [] keeps)
  laws = fit-laws read [] keeps

  -- the one span is open, and the session waits for Finish or is being cleaned up after it
  pub record IsWaiting (x : FitState read) (sp : Spans) : Type 0 where
    pub waits : Waits (fit read [] keeps) (fit-laws read [] keeps) k parts x
    pub is_open : sp.is_open ≡ true
    pub none : sp.ended ≡ []

  -- or it has ended as new
  pub record HasEnded (sp : Spans) : Type 0 where
    pub span : Span
    pub only : sp ≡ record { is_open = false; ended = span ∷ [] }
    pub outcome : span.outcome ≡ Some New
    pub runs : RunsNew parts span.saved span.left

  abbrev pub IsOn : FitState read → Spans → Type 0
  IsOn x sp = IsWaiting x sp ⊎ HasEnded sp

  -- what has ended stays so while no span begins
  still-ended : (sp z : Spans) (b c : Bool) → c ≡ false → HasEnded sp
      → HasEnded (if b && sp.is_open then z else record { is_open = sp.is_open || c; ended = sp.ended })
  still-ended sp z b c f h =
      record {
        span = h.span;
        only =
            go b sp.is_open c sp.ended (ap (λ (s : Spans). s.is_open) h.only) f (ap (λ (s : Spans). s.ended) h.only);
        outcome = h.outcome;
        runs = h.runs;
      }
    where
      as_record : (c : Bool) (l : List Span) → c ≡ false → l ≡ h.span ∷ []
          → ◌≡◌ {A = Spans} (record { is_open = c; ended = l }) (record { is_open = false; ended = h.span ∷ [] })
      as_record c l f e =
          ap (λ (b : Bool). let y : Spans = record { is_open = b; ended = l } in y) f
          ∙ ap (λ (l : List Span). let y : Spans = record { is_open = false; ended = l } in y) e

      go : (b o c : Bool) (l : List Span) → o ≡ false → c ≡ false → l ≡ h.span ∷ []
          → (if b && o then z else record { is_open = o || c; ended = l })
          ≡ record { is_open = false; ended = h.span ∷ [] }
      go true true c l p f e = absurd (cc p)
      go true false c l p f e = as_record c l f e
      go false true c l p f e = absurd (cc p)
      go false false c l p f e = as_record c l f e

  keeps-waiting : (x y : FitState read) → KeepsSession (fit read [] keeps) x y
      → Waits (fit read [] keeps) (fit-laws read [] keeps) k parts x
      → Waits (fit read [] keeps) (fit-laws read [] keeps) k parts y
  keeps-waiting x y h w = grind arith

  -- a span that is open stays so where none ends
  still-open : (sp z : Spans) (b c : Bool) → b ≡ false → sp.is_open ≡ true → sp.ended ≡ [] → let t : Spans =
      if b && sp.is_open then z else record { is_open = sp.is_open || c; ended = sp.ended } in
      (t.is_open ≡ true) × (t.ended ≡ [])
  still-open sp z false c f o e = (ap (λ (b : Bool). b || c) o, e)
  still-open sp z true c f o e = absurd (cc f)

  unit-on : (x : FitState read) (passed : Bool) (after : Status) (sp : Spans) → IsOn x sp
      → (y : FitState read) × (y.state ≡ after_entry read x.state (UnitDone passed after))
      × IsOn y (span_step k x.state (after_entry read x.state (UnitDone passed after)) (UnitDone passed after) sp)
  unit-on x passed after sp h = (y, at, go h)
    where
      y : FitState read
      y = N.unit x passed

      t : NodeState
      t = after_entry read x.state (UnitDone passed after)

      at : y.state ≡ after_entry read x.state (UnitDone passed after)
      at = unit-is read [] keeps x passed

      ends : (w : IsWaiting x sp) → x.state.status ≡ CleaningUp → outcome_in x.state ≡ Some New → (b o : Bool)
          → b ≡ true → o ≡ true
          → HasEnded (if b && o then record {
            is_open = false;
            ended =
                span_of x.state (after_entry read x.state (UnitDone passed after)) ∷ sp.ended;
          }
          else record { is_open = o || false; ended = sp.ended })
      ends w c o true true p q = record {
        span = span_of x.state (after_entry read x.state (UnitDone passed after));
        only =
            ap (λ (l : List Span). let y : Spans =
            record {
              is_open = false;
              ended =
                  span_of x.state (after_entry read x.state (UnitDone passed after)) ∷ l;
            } in y) w.none;
        outcome = o;
        runs =
            subst (λ (s : NodeState). RunsNew parts
            (span_of x.state (after_entry read x.state (UnitDone passed after))).saved s.running) at
            (subst (λ l. RunsNew l (span_of x.state (after_entry read x.state (UnitDone passed after))).saved
            y.state.running) w.waits.planned (laws.cleaning_new x passed k w.waits.mine c o));
      }
      ends w c o true false p q = absurd (cc q)
      ends w c o false b p q = absurd (cc p)

      stays : (w : IsWaiting x sp) → x.state.status ≡ Activated
          → IsWaiting y (span_step k x.state (after_entry read x.state (UnitDone passed after)) (UnitDone passed after)
          sp)
      stays w a =
          let same : y ≡ x = laws.unit_still x passed (ap is_working a) in
          let s =
          still-open sp (record {
            is_open = false;
            ended =
                span_of x.state (after_entry read x.state (UnitDone passed after)) ∷ sp.ended;
          })
          (is_status x.state.status CleaningUp) false (ap (λ s. is_status s CleaningUp) a) w.is_open w.none in
          record {
            waits =
                subst (Waits (fit read [] keeps) (fit-laws read [] keeps) k parts) (sym same) w.waits;
            is_open =
                s.0;
            none = s.1;
          }

      go : IsOn x sp → IsOn y (span_step k x.state (after_entry read x.state (UnitDone passed after))
          (UnitDone passed after) sp)
      go (inr e) = inr (still-ended sp _ (is_status x.state.status CleaningUp) false refl e)
      go (inl w) = elim w.waits.status [
        | inl a ↦ inl (stays w a)
        | inr c ↦ inr (ends w c.0 c.1 (is_status x.state.status CleaningUp) sp.is_open
            (ap (λ s. is_status s CleaningUp) c.0) w.is_open)
      ]

  -- an entry that begins no span
  on-by : (x y : FitState read) (sp : Spans) (c : Bool) → c ≡ false
      → (Waits (fit read [] keeps) (fit-laws read [] keeps) k parts x
      → Waits (fit read [] keeps) (fit-laws read [] keeps) k parts y) → IsOn x sp
      → IsOn y (record { is_open = sp.is_open || c; ended = sp.ended })
  on-by x y sp c f step (inl w) =
      inl (let s = still-open sp sp false c refl w.is_open w.none in
      record { waits = step w.waits; is_open = s.0; none = s.1 })
  on-by x y sp c f step (inr e) = inr (still-ended sp sp false c f e)

  foreign-on : (x : FitState read) (c : ℕ) (at : CallNo) (call : Call) (r : Reply) (sp : Spans)
      → IsNext read x.state (Numbered (suc c) at call r) → IsOn x sp
      → (y : FitState read) × (y.state ≡ after_entry read x.state (Numbered (suc c) at call r))
      × IsOn y (span_step k x.state (after_entry read x.state (Numbered (suc c) at call r))
      (Numbered (suc c) at call r) sp)
  foreign-on x c at call r sp next h = (
    y,
    stepped x.state (suc c) at call (verdict_for read x.state (suc c) call) r next.1,
    on-by x y sp (nat_eq (suc c) 0 && (has_tag k call && (is_status x.state.status Idle && is_done r)))
        (ap (λ (b : Bool). b && (has_tag k call && (is_status x.state.status Idle && is_done r))) (other c))
        (λ w. keeps-waiting x y (laws.foreign_session x (Calls f) k w.mine) w) h,
  )
    where
      bound : suc c < 32
      bound = next.0

      f : ForeignCall
      f = record { other = c; bound = omega (arith, bound); at = at; call = call }

      y : FitState read
      y = N.foreign x (Calls f)

      other : (n : ℕ) → nat_eq (suc n) 0 ≡ false
      other n = grind (arith, nat_tests)

  own-on : (x : FitState read) (at : CallNo) (call : Call) (r : Reply) (sp : Spans)
      → IsNext read x.state (Numbered 0 at call r) → is_calm_call call ≡ true → IsOn x sp
      → (y : FitState read) × (y.state ≡ after_entry read x.state (Numbered 0 at call r))
      × IsOn y (span_step k x.state (after_entry read x.state (Numbered 0 at call r)) (Numbered 0 at call r) sp)
  own-on x at call r sp next c h = (
    y,
    there,
    on-by x y sp (has_tag k call && (is_status x.state.status Idle && is_done r))
        (ap (λ (b : Bool). b && (is_status x.state.status Idle && is_done r)) (calm-tag call c))
        (λ w. keeps-waiting (N.judge x call).0 y
        (laws.keep_session (N.judge x call).0 at call (judged_in read x.state call).1)
        (waits-judge N (fit-laws read [] keeps) k parts x call (calm call c) w)) h,
  )
    where
      gave : (judged_in read x.state call).1 ≡ r
      gave = replied read x.state at call r next.1

      y : FitState read
      y = N.keep (N.judge x call).0 at call (N.judge x call).1

      there : y.state ≡ after_entry read x.state (Numbered 0 at call r)
      there =
          ap (λ s. kept_after s at call (judged_in read x.state call).1) (state-is read [] keeps x call)
          ∙ ap (after_call x.state 0 at call (verdict_for read x.state 0 call)) gave

      calm-tag : (c : Call) → is_calm_call c ≡ true → has_tag k c ≡ false
      calm-tag c e = grind arith

  -- all entries, where no call of client 0 goes back
  pub all-on : (es : List Entry) (s : NodeState) (x : FitState read) (sp : Spans) → x.state ≡ s → IsLegal read s es
      → list_all (λ m. is_calm_call m.call) (made_by 0 es) ≡ true → IsOn x sp
      → (y : FitState read) × (y.state ≡ state_after read s es) × IsOn y (spans_from read k s es sp)
  all-on [] s x sp at legal good h = (x, at, h)
  all-on (UnitDone passed after ∷ es) s x sp at legal good h =
      let e = UnitDone passed after in
      let one = unit-on x passed after sp h in
      all-on es (after_entry read s e) one.0 (span_step k s (after_entry read s e) e sp)
      (one.1 ∙ ap (λ z. after_entry read z e) at) legal.1 good
      (subst (λ z. IsOn one.0 (span_step k z (after_entry read z e) e sp)) at one.2)
  all-on (Numbered (suc c) nr call r ∷ es) s x sp at legal good h =
      let e = Numbered (suc c) nr call r in
      let one = foreign-on x c nr call r sp (subst (λ z. IsNext read z e) (sym at) legal.0) h in
      all-on es (after_entry read s e) one.0 (span_step k s (after_entry read s e) e sp)
      (one.1 ∙ ap (λ z. after_entry read z e) at) legal.1
      (subst (λ (ms : List Made). list_all (λ m. is_calm_call m.call) ms ≡ true) (others c nr call r es) good)
      (subst (λ z. IsOn one.0 (span_step k z (after_entry read z e) e sp)) at one.2)
  all-on (Numbered zero nr call r ∷ es) s x sp at legal good h =
      let e = Numbered 0 nr call r in
      let parts = and_parts (is_calm_call call) _ good in
      let one = own-on x nr call r sp (subst (λ z. IsNext read z e) (sym at) legal.0) parts.0 h in
      all-on es (after_entry read s e) one.0 (span_step k s (after_entry read s e) e sp)
      (one.1 ∙ ap (λ z. after_entry read z e) at) legal.1 parts.1
      (subst (λ z. IsOn one.0 (span_step k z (after_entry read z e) e sp)) at one.2)
