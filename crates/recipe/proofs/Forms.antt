-- A step's line has two words behind its first.
use Rattle.std.proofs.Common.{◌≡◌, ◌<◌, ◌≤◌, List, ℕ, [], ◌∷◌, length, map, Bor, Result, Ok, Err, refl, ap, arith}
use Rattle.scenario.specs.declared.why.Why.{Why}
use Rattle.scenario.specs.declared.why.Why.TheVariants.{Form}
use Rattle.recipe.specs.Made.{MadeOf}
use Rattle.recipe.specs.Recipes.{step_by}
use Rattle.recipe.proofs.With.{refused, same_why}

abbrev said : List (Bor (List ℕ)) → List (List ℕ)
said words = map (λ w. w.now) words

pub too-few : (made : MadeOf) (words : List (Bor (List ℕ))) → length words < 2 → (why : Why)
    → refused Form ≡ refused why → step_by made (said words) ≡ Err why
too-few made [] few why e = ap (λ w. Err w) (same_why Form why e)
too-few made (a ∷ []) few why e = ap (λ w. Err w) (same_why Form why e)
too-few made (a ∷ b ∷ ws) few why e = absurd (omega (arith, few))

pub too-many : (made : MadeOf) (words : List (Bor (List ℕ))) → 3 ≤ length words → (why : Why)
    → refused Form ≡ refused why → step_by made (said words) ≡ Err why
too-many made [] many why e = absurd (omega (arith, many))
too-many made (a ∷ []) many why e = absurd (omega (arith, many))
too-many made (a ∷ b ∷ []) many why e = absurd (omega (arith, many))
too-many made (a ∷ b ∷ c ∷ ws) many why e = ap (λ w. Err w) (same_why Form why e)
