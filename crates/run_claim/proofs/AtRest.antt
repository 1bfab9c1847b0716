-- A session of client 0 that has no unit to do stays as it is until client 0 calls again.
use Rattle.std.specs.Prelude.{◌≡◌, ℕ, zero, suc, true, false, nat_eq, List, [], ◌∷◌, Option, Some, None}
use Rattle.std.specs.List.{AllByRecursion}
use Rattle.std.proofs.Common.{refl, sym, ap, subst, ◌∙◌, arith}
use Rattle.std.proofs.lemmas.Bool.{and_parts, eqb-true}
use Rattle.pm_types.specs.declared.history.Entry.{Entry}
use Rattle.pm_types.specs.declared.history.Entry.TheVariants.{Numbered, Unit as UnitDone}
use Rattle.pm_types.specs.NodeState.{NodeState, Session, is_working}
use Rattle.pm_types.specs.Validity.{IsConsistent}
use Rattle.node_laws.specs.Others.{awaits_owner, IsNotBy}
use Rattle.node_laws.proofs.Others.{leaves-sessions}
use Rattle.run_claim.specs.Evidence.{is_of_campaign}
use Rattle.run_claim.specs.Law.{StaysAtRest}
use Rattle.run_claim.specs.Masters.{made_by}
use Rattle.run_claim.proofs.OldNodes.{others}

-- the campaign's session is client 0's
mine : (k : ℕ) (o : Option Session) → is_of_campaign k o ≡ true → (x : Session) × (o ≡ Some x) × (x.owner ≡ 0)
mine k None is = absurd (cc is)
mine k (Some x) is = (x, refl, eqb-true x.owner 0 (and_parts (nat_eq x.owner 0) (nat_eq x.tag k) is).0)

-- where there is no unit to do, a session awaits its owner
awaits : (s : NodeState) (x : Session) → IsConsistent s → s.session ≡ Some x → is_working s.status ≡ false
    → awaits_owner s.status ≡ true
awaits s x v e rest = let due = v.session in grind (arith, due)

-- no entry is client 0's
none-by : (es : List Entry) → made_by 0 es ≡ [] → AllByRecursion (IsNotBy 0) es
none-by [] none = tt
none-by (UnitDone passed after ∷ es) none = (tt, none-by es none)
none-by (Numbered zero at call r ∷ es) none = absurd (cc none)
none-by (Numbered (suc c) at call r ∷ es) none = (λ e. cc e, none-by es (sym (others c at call r es) ∙ none))

pub stays-at-rest : StaysAtRest
stays-at-rest read s fit k is rest later legal none =
    let x = mine k s.session is in
    let others = subst (λ (n : ℕ). AllByRecursion (IsNotBy n) later) (sym x.2) (none-by later none) in
    let still =
    (leaves-sessions read).history s x.0 later x.1 (awaits s x.0 fit.consistent x.1 rest) legal others in
    (still.1, ap (is_of_campaign k) still.0 ∙ is)
