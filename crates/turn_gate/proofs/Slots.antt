-- The slot of a seat, by whether it has the turn.
use Rattle.std.proofs.Common.{◌≡◌, ◌∷◌, [], ℕ, List, Option, Some, None, ap, ◌∙◌}
use Rattle.turn_gate.specs.declared.view.Account.{Account}
use Rattle.turn_gate.specs.Known.{HasSlot}

module _ {M E : Type 0} where
  pub no_slot : (o : Option (Account E)) (seen : List E) (slots : List (ℕ × Option M)) → HasSlot o seen slots → o ≡ None
      → slots ≡ []
  no_slot None seen slots has rests = has
  no_slot (Some a) seen slots has rests = absurd cc

  pub one_slot : (o : Option (Account E)) (a : Account E) (seen : List E) (slots : List (ℕ × Option M))
      → HasSlot o seen slots → o ≡ Some a → (slots ≡ (0, None) ∷ []) × (seen ≡ a.entries)
  one_slot None a seen slots has holds = absurd cc
  one_slot (Some b) a seen slots has holds =
      let same : b ≡ a = cc in (has.0, has.1 ∙ ap (λ (x : Account E). x.entries) same)
