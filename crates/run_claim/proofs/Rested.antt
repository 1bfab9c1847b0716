-- A node whose last call of the master showed it at rest has no session of the master.
use Rattle.world.proofs.Names.{◌≡◌, zero, suc, ◌<◌, true, List, [], ◌∷◌, Option, None, IfSome, refl, sym, ap, subst, ◌∙◌, arith}
use Rattle.world.proofs.Names.{Reply, Synced, Shown, Entry, NodeState, Reading, after_entry, state_after, verdict_for, after_call}
use Rattle.pm_types.specs.declared.history.Entry.TheVariants.{Numbered, Unit as UnitDone}
use Rattle.pm_types.specs.Histories.{IsLegal, IsNext}
use Rattle.world.proofs.Rules.{NodeRules, NodeLaws}
use Rattle.world.proofs.Instance.{Calls, ForeignCall, mine_in, kept_in, judged_in, kept_after}
use Rattle.world.proofs.FitLaws.{KeepsNode, FitState, fit, fit-laws, state-is, unit-is}
use Rattle.world.proofs.Invariant.{KeptHolds, kept-fresh, kept-foreign, kept-unit}
use Rattle.run_claim.specs.Masters.{made_by}
use Rattle.sub_core.specs.Made.{ends_at_rest}
use Rattle.run_claim.proofs.OldNodes.{stepped, replied, last-on, next_reply, last_reply, rest-reply}

module _ (read : Reading) (keeps : KeepsNode read []) where
  abbrev N : NodeRules
  N = fit read [] keeps

  laws : NodeLaws (fit read [] keeps)
  laws = fit-laws read [] keeps

  -- the last reply is kept, and what it says still holds
  record IsKept (x : FitState read) (o : Option Reply) : Type 0 where
    kept : KeptHolds (fit read [] keeps) x
    last : IfSome o (λ r. kept_in x.state ≡ r)

  one-kept : (x : FitState read) (e : Entry) (o : Option Reply) → IsNext read x.state e → IsKept x o
      → (y : FitState read) × (y.state ≡ after_entry read x.state e) × IsKept y (next_reply o e)
  one-kept x (UnitDone passed after) o next h = (
    N.unit x passed,
    unit-is read [] keeps x passed,
    record {
      kept = kept-unit N laws x passed h.kept;
      last =
          last-on o x.state (N.unit x passed).state (laws.unit_last x passed).1 h.last;
    },
  )
  one-kept x (Numbered (suc c) at call r) o next h =
      let bound : suc c < 32 = next.0 in
      let f : ForeignCall = record { other = c; bound = omega (arith, bound); at = at; call = call } in (
        N.foreign x (Calls f),
        stepped x.state (suc c) at call (verdict_for read x.state (suc c) call) r next.1,
        record {
          kept = kept-foreign N laws x (Calls f) h.kept;
          last = last-on o x.state (N.foreign x (Calls f)).state (laws.foreign_last x (Calls f)).1 h.last;
        },
      )
  one-kept x (Numbered zero at call r) o next h =
      let gave = replied read x.state at call r next.1 in (
        N.keep (N.judge x call).0 at call (N.judge x call).1,
        ap (λ s. kept_after s at call (judged_in read x.state call).1) (state-is read [] keeps x call)
            ∙ ap (after_call x.state 0 at call (verdict_for read x.state 0 call)) gave,
        record {
          kept = kept-fresh N laws x at call;
          last =
              laws.keep_kept (N.judge x call).0 at call (judged_in read x.state call).1 ∙ gave;
        },
      )

  all-kept : (es : List Entry) (s : NodeState) (x : FitState read) (o : Option Reply) → x.state ≡ s → IsLegal read s es
      → IsKept x o → (y : FitState read) × (y.state ≡ state_after read s es) × IsKept y (last_reply o es)
  all-kept [] s x o at legal h = (x, at, h)
  all-kept (e ∷ es) s x o at legal h =
      let one = one-kept x e o (subst (λ z. IsNext read z e) (sym at) legal.0) h in
      all-kept es (after_entry read s e) one.0 (next_reply o e) (one.1 ∙ ap (λ z. after_entry read z e) at) legal.1
      one.2

  -- no session of the master is left
  pub rest-none : (x : FitState read) (es : List Entry) → ((y : Shown) → kept_in x.state ≡ Synced y → ⊥)
      → IsLegal read x.state es → ends_at_rest (made_by 0 es) ≡ true → mine_in (state_after read x.state es) ≡ None
  rest-none x es fresh legal rest =
      let last = rest-reply es None rest in
      let end =
      all-kept es x.state x None refl legal
      (record {
        kept = record { none = λ y e f. absurd (fresh y e); rolled = λ y e f. absurd (fresh y e) };
        last =
            tt;
      }) in
      sym (ap mine_in end.1) ∙ end.2.kept.none last.0
      (subst (λ (o : Option Reply). IfSome o (λ r. kept_in end.0.state ≡ r)) last.1 end.2.last) last.2
