-- One list of entries after another.
use Rattle.node_laws.proofs.Names.{refl, ℕ, List, [], ◌∷◌, ◌++◌, Entry, UnitDone, Numbered, NodeState, Reading, IsLegal}
use Rattle.node_laws.proofs.Names.{after_entry, state_after, ◌≡◌}
use Rattle.std.specs.Prelude.{◌↔◌}
use Rattle.pm_types.specs.Histories.{IsTrueTo}
use Rattle.node_laws.specs.Appends.{GoesOn}

module _ (read : Reading) where
  pub after-append : (s : NodeState) (es gs : List Entry)
      → state_after read s (es ++ gs) ≡ state_after read (state_after read s es) gs
  after-append s [] gs = refl
  after-append s (e ∷ es) gs = after-append (after_entry read s e) es gs

  legal-append : (s : NodeState) (es gs : List Entry)
      → IsLegal read s (es ++ gs) ↔ (IsLegal read s es × IsLegal read (state_after read s es) gs)
  legal-append s [] gs = (λ legal. (tt, legal), λ both. both.1)
  legal-append s (e ∷ es) gs =
      let rest = legal-append (after_entry read s e) es gs in (
        λ legal. ((legal.0, (rest.0 legal.1).0), (rest.0 legal.1).1),
        λ both. (both.0.0, rest.1 (both.0.1, both.1)),
      )

  true-append : (fails : List (List ℕ)) (s : NodeState) (es gs : List Entry)
      → IsTrueTo fails read s (es ++ gs) ↔ (IsTrueTo fails read s es × IsTrueTo fails read (state_after read s es) gs)
  true-append fails s [] gs = (λ true_to. (tt, true_to), λ both. both.1)
  true-append fails s (UnitDone passed after ∷ es) gs =
      let rest = true-append fails (after_entry read s (UnitDone passed after)) es gs in (
        λ true_to. ((true_to.0, (rest.0 true_to.1).0), (rest.0 true_to.1).1),
        λ both. (both.0.0, rest.1 (both.0.1, both.1)),
      )
  true-append fails s (Numbered client at call reply ∷ es) gs =
      true-append fails (after_entry read s (Numbered client at call reply)) es gs

  pub goes-on : GoesOn read
  goes-on = record { state = after-append; legal = legal-append; true_to = true-append }
