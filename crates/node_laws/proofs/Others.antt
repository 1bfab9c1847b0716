-- What other clients' calls and units leave of a session.
use Rattle.node_laws.proofs.Names.{◌≡◌, refl, sym, ap, ◌∙◌, subst, ℕ, ◌==◌, Bool, true, false, List, [], ◌∷◌, Some}
use Rattle.node_laws.proofs.Names.{None, arith, AllByRecursion, eqb-true, Entry, Numbered, UnitDone, NodeState, Session}
use Rattle.node_laws.proofs.Names.{Reading, IsLegal, after_entry, state_after, after_call, Call, CallNo, Verdict}
use Rattle.node_laws.proofs.Names.{verdict_for, judge}
use Rattle.std.specs.Prelude.{◌≢◌}
use Rattle.pm_types.specs.Work.{unit}
use Rattle.node_laws.proofs.Legal.{answered}
use Rattle.node_laws.specs.Runs.{called}
use Rattle.node_laws.specs.Others.{awaits_owner, HasStill, IsNotBy, LeavesSessions}

-- another owner's session refuses each of the six calls, and the others don't touch it
pub judge-leaves : (s : NodeState) (x : Session) (client : ℕ) (c : Call) (v : Verdict)
    → s.session ≡ Some x → (x.owner == client) ≡ false → HasStill s (judge s client c v).0
judge-leaves s x client c v e n = grind arith

apart : (owner client : ℕ) → client ≢ owner → (owner == client) ≡ false
apart owner client n = go (owner == client) refl
  where
    go : (b : Bool) → (owner == client) ≡ b → (owner == client) ≡ false
    go false e = e
    go true e = absurd (n (sym (eqb-true owner client e)))

no-unit : (s : NodeState) (passed : Bool) → awaits_owner s.status ≡ true → unit s passed ≡ None
no-unit s passed e = grind arith

module _ (read : Reading) where
  call-leaves : (s : NodeState) (x : Session) (client : ℕ) (at : CallNo) (call : Call)
      → s.session ≡ Some x → client ≢ x.owner → HasStill s (called read s client at call).0
  call-leaves s x client at call e n =
      let kept = judge-leaves s x client call (verdict_for read s client call) e (apart x.owner client n) in
      let here : HasStill s s = (refl, refl) in
      grind (arith, kept, here)

  entry-leaves : (s : NodeState) (x : Session) (entry : Entry) → s.session ≡ Some x → awaits_owner s.status ≡ true
      → IsLegal read s (entry ∷ []) → IsNotBy x.owner entry → HasStill s (after_entry read s entry)
  entry-leaves s x (Numbered client at call reply) e a legal n =
      let v = verdict_for read s client call in
      subst (λ r. HasStill s (after_call s client at call v r)) (sym (answered read s client at call reply legal.0.1))
      (judge-leaves s x client call v e (apart x.owner client n))
  entry-leaves s x (UnitDone passed after) e a legal n =
      let none = no-unit s passed a in grind (arith, none)

  history-leaves : (s : NodeState) (x : Session) (entries : List Entry)
      → s.session ≡ Some x → awaits_owner s.status ≡ true → IsLegal read s entries
      → AllByRecursion (IsNotBy x.owner) entries → HasStill s (state_after read s entries)
  history-leaves s x [] e a legal n = (refl, refl)
  history-leaves s x (entry ∷ entries) e a legal n =
      let one = entry-leaves s x entry e a (legal.0, tt) n.0 in
      let t = after_entry read s entry in
      let rest = history-leaves t x entries (one.0 ∙ e) (ap awaits_owner one.1 ∙ a) legal.1 n.1 in
      (rest.0 ∙ one.0, rest.1 ∙ one.1)

  pub leaves-sessions : LeavesSessions read
  leaves-sessions = record { call = call-leaves; unit = no-unit; history = history-leaves }
