-- A node whose other clients are calm refuses no call of an eligible campaign's rounds and fails no check.
use Rattle.std.specs.List.{list_any}
use Rattle.std.proofs.lemmas.Bool.Decides.{nat_tests}
use Rattle.ucm_base.specs.Limits.{transfer_limit}
use Rattle.pm_types.specs.declared.history.Entry.TheVariants.{Numbered, Unit as UnitDone}
use Rattle.pm_types.specs.Histories.{IsLegal, IsNext, IsTrueTo, unit_passes}
use Rattle.pm_types.specs.Steps.{acceptance}
use Rattle.node_laws.specs.Fit.{KeepsFit}
use Rattle.node_laws.proofs.Kept.{keeps-fit}
use Rattle.node_laws.proofs.Lists.{neither, not-true}
use Rattle.campaign_core.specs.declared.events.Vote.{Vote}
use Rattle.world.specs.Messages.{is_refusal}
use Rattle.world.proofs.Names.{◌≡◌, ◌≢◌, inl, inr, ℕ, zero, suc, ◌<◌, ◌≤◌, Bool, true, false, ◌&&◌, List, [], ◌∷◌, ◌++◌}
use Rattle.world.proofs.Names.{map, length, take, Some, None, refl, sym, ap, subst, ◌∙◌, arith, CallNo, Bytes, Cluster}
use Rattle.world.proofs.Names.{Call}
use Rattle.world.proofs.Names.{Reply, Status, Entry, NodeState, TransferStart, RolledBack, Reading, after_entry}
use Rattle.world.proofs.Names.{state_after, formatted, verdict_for, after_call, after_reply, accepted, refusal}
use Rattle.world.proofs.Names.{refused_or}
use Rattle.world.proofs.Names.{Verdict, parts_in, Fits, round_calls, slice_get, Stage, AtSync}
use Rattle.world.proofs.Names.{Over, RefusedOnce}
use Rattle.world.proofs.Names.{call_at, onward}
use Rattle.world.proofs.Rules.{NodeRules, NodeLaws}
use Rattle.world.proofs.Instance.{Calls, ForeignCall, judged_in, kept_after}
use Rattle.world.proofs.FitLaws.{KeepsNode, FitState, fit, fit-laws, state-is, unit-is}
use Rattle.world.proofs.EarlyFacts.{IsAt, at-foreign, at-unit, at-keep, at-judge}
use Rattle.world.proofs.RoundList.{rest_of, one-on, IsReached, reached-on}
use Rattle.run_claim.specs.Calm.{AreWhole, CalmNode, is_foreign_start}
use Rattle.run_claim.specs.Eligible.{all_apply, all_met}
use Rattle.run_claim.specs.Evidence.{VoteIsShown, is_of_node}
use Rattle.run_claim.specs.Masters.{made_by, needs_rest, is_at_work, hurries}
use Rattle.sub_core.specs.Made.{Made, ids_given}
use Rattle.run_claim.proofs.OldNodes.{stepped, replied, others, keeps_node}
use Rattle.run_claim.proofs.Rounds.{first-any, none-left, tail, fits, rounds-are}
use Rattle.run_claim.proofs.Idle.{noted, reply-is, foreign-leaves}
use Rattle.run_claim.proofs.CalmState.{IsCalmBy, IsCalm, calm-leaves}
use Rattle.run_claim.proofs.CalmCalls.{not-refused}
use Rattle.run_claim.proofs.CalmSteps.{NoneFails, calm-on, calm-unit}

-- a legal history with the script's verdicts, without starts of others, in which the master waits for units
record GoesCalmly (read : Reading) (fails : List (List ℕ)) (s : NodeState) (es : List Entry) : Type 0 where
  legal : IsLegal read s es
  faithful : IsTrueTo fails read s es
  starts : list_any is_foreign_start es ≡ false
  waits : hurries read s es ≡ false

-- what this says of its first entry
module _ (read : Reading) (fails : List (List ℕ)) (s : NodeState) where
  after-unit : (passed : Bool) (after : Status) (es : List Entry) → GoesCalmly read fails s (UnitDone passed after ∷ es)
      → (passed ≡ unit_passes fails s) × GoesCalmly read fails (after_entry read s (UnitDone passed after)) es
  after-unit passed after es h =
      (h.faithful.0, record { legal = h.legal.1; faithful = h.faithful.1; starts = h.starts; waits = h.waits })

  after-number : (c : ℕ) (at : CallNo) (call : Call) (r : Reply) (es : List Entry)
      → GoesCalmly read fails s (Numbered c at call r ∷ es)
      → (is_foreign_start (Numbered c at call r) ≡ false)
      × ((needs_rest (Numbered c at call r) && is_at_work s) ≡ false)
      × GoesCalmly read fails (after_entry read s (Numbered c at call r)) es
  after-number c at call r es h =
      let e = Numbered c at call r in
      let a = neither (is_foreign_start e) _ h.starts in
      let b = neither (needs_rest e && is_at_work s) _ h.waits in
      (a.0, b.0, record { legal = h.legal.1; faithful = h.faithful; starts = a.1; waits = b.1 })

-- another client's call that isn't a start
not-start : (c : ℕ) (at : CallNo) (call : Call) (r : Reply) → is_foreign_start (Numbered (suc c) at call r) ≡ false
    → (size : ℕ) → call ≢ TransferStart size
not-start c at call r e size q = grind (arith, nat_tests)

-- the first of some calls that are taken
first-taken : (n : ℕ) (cs : List Call) (c : Call) (rest : List Call) → take (suc n) cs ≡ c ∷ rest
    → slice_get cs 0 ≡ Some c
first-taken n [] c rest e = absurd (cc e)
first-taken n (d ∷ ds) c rest e = cc e

-- the reply of an accepted call is no refusal, and the call was carried out
not-refusal : (s : NodeState) (call : Call) → is_refusal (acceptance s 0 call) ≡ false
not-refusal s call = grind arith

carried-out : (s : NodeState) (call : Call) (v : Verdict) (r : Reply) → r ≡ acceptance s 0 call
    → after_reply s 0 call v r ≡ accepted s 0 call v
carried-out s call v r e = grind arith

module _ (read : Reading) (keeps : KeepsNode read []) (clusters : List (Cluster Bytes)) (k : ℕ) (ps : List (List ℕ))
    (some : ps ≢ []) (low : 1 ≤ k) (few : length ps ≤ transfer_limit) (whole : AreWhole read ps)
    (applies : all_apply clusters (parts_in read ps) ≡ true) (met : all_met clusters (parts_in read ps) ≡ true)
    (fails : List (List ℕ)) (sound : NoneFails fails (parts_in read ps)) where
  abbrev N : NodeRules
  N = fit read [] keeps

  laws : NodeLaws (fit read [] keeps)
  laws = fit-laws read [] keeps

  -- what is kept through the rounds
  record CalmIn (x : FitState read) (stage : Stage) : Type 0 where
    at : IsAt N x k ps stage
    reached : IsReached k ps stage
    calm : IsCalm clusters x.state stage

  -- the same after an entry
  abbrev CalmAfter : FitState read → Entry → Stage → Type 0
  CalmAfter x e stage = (y : FitState read) × (y.state ≡ after_entry read x.state e) × CalmIn y stage

  on-from : (x : FitState read) (s : NodeState) (y : FitState read) (e : Entry) → x.state ≡ s
      → y.state ≡ after_entry read x.state e → y.state ≡ after_entry read s e
  on-from x s y e same at = at ∙ ap (λ (z : NodeState). after_entry read z e) same

  -- a unit
  unit-calm : (x : FitState read) (passed : Bool) (after : Status) (stage : Stage)
      → passed ≡ unit_passes fails x.state → CalmIn x stage → CalmAfter x (UnitDone passed after) stage
  unit-calm x passed after stage p h =
      let at = unit-is read [] keeps x passed in
      let calm = calm-unit read keeps clusters k ps fails sound x passed stage p h.at h.calm in (
        N.unit x passed,
        at,
        record {
          at = at-unit N laws x passed k ps stage h.at;
          reached = h.reached;
          calm = subst (λ (s : NodeState). IsCalm clusters s stage) (sym at) calm;
        },
      )

  -- another client's call
  foreign-calm : (x : FitState read) (c : ℕ) (at : CallNo) (call : Call) (r : Reply) (stage : Stage)
      → IsNext read x.state (Numbered (suc c) at call r) → is_foreign_start (Numbered (suc c) at call r) ≡ false
      → CalmIn x stage → CalmAfter x (Numbered (suc c) at call r) stage
  foreign-calm x c at call r stage next quiet h =
      let bound : suc c < 32 = next.0 in
      let f : ForeignCall = record { other = c; bound = omega (arith, bound); at = at; call = call } in
      let v = verdict_for read x.state (suc c) call in
      let there = stepped x.state (suc c) at call v r next.1 in
      let leaves = foreign-leaves x.state c at call v r x.fit.consistent h.calm.mine h.calm.own
      (not-start c at call r quiet) next.1 in (
        N.foreign x (Calls f),
        there,
        record {
          at = at-foreign N laws x (Calls f) k ps stage h.at;
          reached = h.reached;
          calm = subst (λ (s : NodeState). IsCalm clusters s stage) (sym there)
              (calm-leaves clusters x.state _ stage leaves h.calm);
        },
      )

  -- a call of the rounds
  own-calm : (x : FitState read) (at : CallNo) (call : Call) (r : Reply) (stage : Stage)
      → IsNext read x.state (Numbered 0 at call r) → call_at k stage ≡ Some call
      → (needs_rest (Numbered 0 at call r) && is_at_work x.state) ≡ false → CalmIn x stage
      → (is_refusal r ≡ false) × Fits stage r × CalmAfter x (Numbered 0 at call r) (onward ps stage r)
  own-calm x at call r stage next is rest h =
      (good, fitting, (y, there, record { at = led; reached = reached; calm = subst Calm (sym there) calm }))
    where
      v : Verdict
      v = verdict_for read x.state 0 call

      none : refusal x.state 0 call v ≡ None
      none = not-refused read keeps clusters k ps low few whole x stage call at r applies met is h.at h.calm rest

      reply : r ≡ acceptance x.state 0 call
      reply = reply-is x.state 0 at call v r next.1 ∙ ap (refused_or (acceptance x.state 0 call)) none

      good : is_refusal r ≡ false
      good = ap is_refusal reply ∙ not-refusal x.state call

      gave : (judged_in read x.state call).1 ≡ r
      gave = replied read x.state at call r next.1

      fitting : Fits stage r
      fitting = fits read keeps k ps some x stage call r is gave good

      reached : IsReached k ps (onward ps stage r)
      reached = reached-on k ps stage r some fitting

      y : FitState read
      y = N.keep (N.judge x call).0 at call (N.judge x call).1

      there : y.state ≡ after_entry read x.state (Numbered 0 at call r)
      there =
          ap (λ s. kept_after s at call (judged_in read x.state call).1) (state-is read [] keeps x call)
          ∙ ap (after_call x.state 0 at call v) gave

      -- the rounds alone
      judged : IsAt N (N.judge x call).0 k ps (onward ps stage r)
      judged = elim (at-judge N laws x k ps stage call is h.at) [
        | inl bad ↦
            absurd (let back = subst (λ (q : Reply). onward ps stage q ≡ RefusedOnce) gave bad in
            subst (IsReached k ps) back reached)
        | inr led ↦ subst (λ (q : Reply). IsAt N (N.judge x call).0 k ps (onward ps stage q)) gave led
      ]

      led : IsAt N y k ps (onward ps stage r)
      led = at-keep N laws (N.judge x call).0 at call (judged_in read x.state call).1 k ps (onward ps stage r) judged

      -- and what is calm
      Calm : NodeState → Type 0
      Calm s = IsCalm clusters s (onward ps stage r)

      calm : Calm (after_entry read x.state (Numbered 0 at call r))
      calm = calm-leaves clusters (accepted x.state 0 call v) _ (onward ps stage r)
          (noted x.state (accepted x.state 0 call v) 0 at call v r (carried-out x.state call v r reply))
          (subst (λ (q : Reply). IsCalm clusters (accepted x.state 0 call v) (onward ps stage q)) (sym reply)
          (calm-on clusters k ps x.state stage call v x.fit.consistent is none h.calm))

  -- the calls of these entries are the first that are left from a stage on
  abbrev AreFirst : Stage → List Made → Type 0
  AreFirst stage ms = map (λ m. m.call) ms ≡ take (length ms) (rest_of k ps stage (ids_given ms))

  -- or all that are left
  abbrev AreAll : Stage → List Made → Type 0
  AreAll stage ms = map (λ m. m.call) ms ≡ rest_of k ps stage (ids_given ms)

  -- an entry of client 0 whose call is the stage's
  own-next : (s : NodeState) (x : FitState read) (at : CallNo) (call : Call) (r : Reply) (stage : Stage) → x.state ≡ s
      → IsNext read s (Numbered 0 at call r) → call_at k stage ≡ Some call
      → (needs_rest (Numbered 0 at call r) && is_at_work s) ≡ false → CalmIn x stage
      → (is_refusal r ≡ false) × Fits stage r × CalmAfter x (Numbered 0 at call r) (onward ps stage r)
  own-next s x at call r stage same next is rest h = own-calm x at call r stage
      (subst (λ (z : NodeState). IsNext read z (Numbered 0 at call r)) (sym same) next) is
      (subst (λ (z : NodeState). (needs_rest (Numbered 0 at call r) && is_at_work z) ≡ false) (sym same) rest) h

  -- the calls after it
  next-first : (stage : Stage) (m : Made) (ms : List Made) → Fits stage m.reply → AreFirst stage (m ∷ ms)
      → AreFirst (onward ps stage m.reply) ms
  next-first stage m ms f calls =
      let one = one-on k ps stage m.reply (map (λ m. m.reply) ms) some f in
      tail m.call one.0 _ _ (calls ∙ ap (take (suc (length ms))) one.2)

  next-all : (stage : Stage) (m : Made) (ms : List Made) → Fits stage m.reply → AreAll stage (m ∷ ms)
      → AreAll (onward ps stage m.reply) ms
  next-all stage m ms f calls =
      let one = one-on k ps stage m.reply (map (λ m. m.reply) ms) some f in
      tail m.call one.0 _ _ (calls ∙ one.2)

  -- the first of them is the stage's
  is-first : (stage : Stage) (m : Made) (ms : List Made) → IsReached k ps stage → AreFirst stage (m ∷ ms)
      → call_at k stage ≡ Some m.call
  is-first stage m ms reached calls =
      first-any k ps stage (ids_given (m ∷ ms)) reached ∙ first-taken (length ms) _ m.call _ (sym calls)

  is-next : (stage : Stage) (m : Made) (ms : List Made) → IsReached k ps stage → AreAll stage (m ∷ ms)
      → call_at k stage ≡ Some m.call
  is-next stage m ms reached calls =
      first-any k ps stage (ids_given (m ∷ ms)) reached ∙ sym (ap (λ (l : List Call). slice_get l 0) calls)

  -- no call of the rounds is refused
  none-refused : (es : List Entry) (s : NodeState) (x : FitState read) (stage : Stage) → x.state ≡ s
      → GoesCalmly read fails s es → CalmIn x stage
      → (before : List Made) (m : Made) (after : List Made) → made_by 0 es ≡ before ++ m ∷ after
      → AreFirst stage (before ++ m ∷ []) → is_refusal m.reply ≡ true → ⊥
  none-refused [] s x stage same goes h [] m after there calls bad = cc there
  none-refused [] s x stage same goes h (b ∷ bs) m after there calls bad = cc there
  none-refused (UnitDone passed st ∷ es) s x stage same goes h before m after there calls bad =
      let e = UnitDone passed st in
      let on = after-unit read fails s passed st es goes in
      let one = unit-calm x passed st stage (on.0 ∙ ap (unit_passes fails) (sym same)) h in
      none-refused es (after_entry read s e) one.0 stage (on-from x s one.0 e same one.1) on.1 one.2
      before m after there calls bad
  none-refused (Numbered (suc c) at call r ∷ es) s x stage same goes h before m after there calls bad =
      let e = Numbered (suc c) at call r in
      let on = after-number read fails s (suc c) at call r es goes in
      let next = subst (λ z. IsNext read z e) (sym same) goes.legal.0 in
      let one = foreign-calm x c at call r stage next on.0 h in
      none-refused es (after_entry read s e) one.0 stage (on-from x s one.0 e same one.1) on.2 one.2
      before m after (sym (others c at call r es) ∙ there) calls bad
  none-refused (Numbered zero at call r ∷ es) s x stage same goes h [] m after there calls bad =
      let on = after-number read fails s 0 at call r es goes in
      let made : Made = record { at = at; call = call; reply = r } in
      let own : m ≡ made = cc there in
      let is = is-first stage made [] h.reached (subst (λ (y : Made). AreFirst stage (y ∷ [])) own calls) in
      let one = own-next s x at call r stage same goes.legal.0 is on.1 h in
      let refused : is_refusal r ≡ true = ap (λ (y : Made). is_refusal y.reply) (sym own) ∙ bad in
      cc (one.0, refused)
  none-refused (Numbered zero at call r ∷ es) s x stage same goes h (b ∷ bs) m after there calls bad =
      let e = Numbered 0 at call r in
      let on = after-number read fails s 0 at call r es goes in
      let made : Made = record { at = at; call = call; reply = r } in
      let own : b ≡ made = cc there in
      let rest : made_by 0 es ≡ bs ++ m ∷ after = cc there in
      let first = subst (λ (y : Made). AreFirst stage (y ∷ (bs ++ m ∷ []))) own calls in
      let is = is-first stage made (bs ++ m ∷ []) h.reached first in
      let one = own-next s x at call r stage same goes.legal.0 is on.1 h in
      let last = one.2 in
      none-refused es (after_entry read s e) last.0 (onward ps stage r) (on-from x s last.0 e same last.1)
      on.2 last.2 bs m after rest (next-first stage made (bs ++ m ∷ []) one.1 first) bad

  -- where all calls were made, the node goes on to Activated
  at-end : (s : NodeState) (x : FitState read) (stage : Stage) → x.state ≡ s → CalmIn x stage
      → AreAll stage [] → s.status ≡ RolledBack → ⊥
  at-end s x stage same h calls back = go (subst (IsCalmBy x.state) (none-left k ps stage h.reached calls) h.calm.by)
      (ap (λ (z : NodeState). z.status) same ∙ back)
    where
      go : IsCalmBy x.state Over → x.state.status ≡ RolledBack → ⊥
      go (inl a) b = cc (a, b)
      go (inr (inl a)) b = cc (a, b)
      go (inr (inr a)) b = cc (a, b)

  -- so no check fails
  none-back : (n : ℕ) (es : List Entry) (s : NodeState) (x : FitState read) (stage : Stage) → x.state ≡ s
      → GoesCalmly read fails s es → CalmIn x stage → AreAll stage (made_by 0 (take n es))
      → (state_after read s (take n es)).status ≡ RolledBack → ⊥
  none-back zero es s x stage same goes h calls back = at-end s x stage same h calls back
  none-back (suc n) [] s x stage same goes h calls back = at-end s x stage same h calls back
  none-back (suc n) (UnitDone passed st ∷ es) s x stage same goes h calls back =
      let e = UnitDone passed st in
      let on = after-unit read fails s passed st es goes in
      let one = unit-calm x passed st stage (on.0 ∙ ap (unit_passes fails) (sym same)) h in
      none-back n es (after_entry read s e) one.0 stage (on-from x s one.0 e same one.1) on.1 one.2 calls
      back
  none-back (suc n) (Numbered (suc c) at call r ∷ es) s x stage same goes h calls back =
      let e = Numbered (suc c) at call r in
      let on = after-number read fails s (suc c) at call r es goes in
      let next = subst (λ z. IsNext read z e) (sym same) goes.legal.0 in
      let one = foreign-calm x c at call r stage next on.0 h in
      none-back n es (after_entry read s e) one.0 stage (on-from x s one.0 e same one.1) on.2 one.2
      (subst (AreAll stage) (others c at call r (take n es)) calls) back
  none-back (suc n) (Numbered zero at call r ∷ es) s x stage same goes h calls back =
      let e = Numbered 0 at call r in
      let on = after-number read fails s 0 at call r es goes in
      let made : Made = record { at = at; call = call; reply = r } in
      let rest = made_by 0 (take n es) in
      let one = own-next s x at call r stage same goes.legal.0 (is-next stage made rest h.reached calls) on.1 h in
      let last = one.2 in
      none-back n es (after_entry read s e) last.0 (onward ps stage r) (on-from x s last.0 e same last.1)
      on.2 last.2 (next-all stage made rest one.1 calls) back

-- the law of one node
pub calm-node : CalmNode
calm-node read reading clusters installed ps some few whole applies met fails sound k epoch low history legal faithful
    starts waits vote own shown = go vote own shown
  where
    keeps : KeepsNode read []
    keeps = keeps_node read reading

    -- the node as it was formatted
    start : FitState read
    start =
        let f : KeepsFit read = keeps-fit read reading in
        record { state = formatted clusters; fit = f.formatted clusters installed }

    quiet : NoneFails fails (parts_in read ps)
    quiet = not-true _ sound

    goes : GoesCalmly read fails (formatted clusters) history
    goes = record { legal = legal; faithful = faithful; starts = not-true _ starts; waits = not-true _ waits }

    begins : CalmIn read keeps clusters k ps some low few whole applies met fails quiet start AtSync
    begins = record {
      at = refl;
      reached = tt;
      calm = record {
        mine = tt;
        own = tt;
        saved = refl;
        by = record { counts = tt; next = refl; many = refl; each = tt };
      };
    }

    -- the calls of the rounds are those that are left from Sync on
    rounds : (ids : List ℕ) → round_calls k ids ps ≡ rest_of k ps AtSync ids
    rounds ids = rounds-are read keeps k ps some ids

    go : (v : Vote) → is_of_node v ≡ true → VoteIsShown read (formatted clusters) k epoch ps history v → ⊥
    go Vote.Yes is h = absurd (cc is)
    go (Vote.Refused at why) is h =
        let made = h.before ++ h.refused ∷ [] in
        let calls = h.rounds.calls ∙ ap (take (length made)) (rounds (ids_given made)) in
        none-refused read keeps clusters k ps some low few whole applies met fails quiet history (formatted clusters)
        start AtSync refl goes begins h.before h.refused h.after h.there calls (ap is_refusal h.reply)
    go Vote.RolledBack is h =
        none-back read keeps clusters k ps some low few whole applies met fails quiet h.place history
        (formatted clusters) start AtSync refl goes begins
        (h.calls ∙ rounds (ids_given (made_by 0 (take h.place history)))) h.status
    go (Vote.Unreached losses faults) is h = absurd (cc is)
