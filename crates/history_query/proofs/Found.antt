-- What a search finds.
use Rattle.std.proofs.Common.{◌≡◌, Bool, true, false, cond, List, [], ◌∷◌, find, Some, refl, sym, ap, subst, ◌∙◌}
use Rattle.std.specs.List.{AllByRecursion}

-- it passes the test, and has each element's fact
pub found-has : {X : Type 0} (p : X → Bool) (P : X → Type 0) (xs : List X) (x : X) → AllByRecursion P xs
    → find p xs ≡ Some x → (p x ≡ true) × P x
found-has p P [] x h e = absurd (cc)
found-has {X} p P (y ∷ ys) x h e = go (p y) refl e (found-has p P ys x h.1)
  where
    go : (b : Bool) → p y ≡ b → cond b (Some y) (find p ys) ≡ Some x → (find p ys ≡ Some x → (p x ≡ true) × P x)
        → (p x ≡ true) × P x
    go true q k rec = let same : y ≡ x = cc k in (ap p (sym same) ∙ q, subst P same h.0)
    go false q k rec = rec k
