-- Facts of each element of a list, and searches.
use Rattle.std.proofs.Common.{◌≡◌, refl, sym, subst, ◌∙◌, ℕ, zero, suc, ◌<◌, ◌≤◌, Bool, true, false, cond, List, [], ◌∷◌, ◌++◌, length, get_or, set, filter, Option, Some, None, arith}
use Rattle.std.specs.Prelude.{find, IfSome, nat_lt}
use Rattle.std.specs.List.{position, position_or_len, AllByRecursion}
use Rattle.std.proofs.lemmas.Bool.{ltb-true, ltb-false}
use Rattle.std.proofs.lemmas.List.Folds.{find_at}
use Rattle.std.proofs.lemmas.Option.{slice_get-get_or, slice_get_past}

module _ {X : Type 0} (P : X → Type 0) where
  pub each-push : (xs : List X) (y : X) → AllByRecursion P xs → P y → AllByRecursion P (xs ++ y ∷ [])
  each-push [] y all here = (here, tt)
  each-push (x ∷ xs) y all here = (all.0, each-push xs y all.1 here)

  pub each-set : (xs : List X) (i : ℕ) (y : X) → AllByRecursion P xs → P y → AllByRecursion P (set xs i y)
  each-set [] i y all here = tt
  each-set (x ∷ xs) zero y all here = (here, all.1)
  each-set (x ∷ xs) (suc i) y all here = (all.0, each-set xs i y all.1 here)

  pub each-at : (xs : List X) (i : ℕ) (d : X) → i < length xs → AllByRecursion P xs → P (get_or xs i d)
  each-at [] i d lt all = absurd (omega (arith, lt))
  each-at (x ∷ xs) zero d lt all = all.0
  each-at (x ∷ xs) (suc i) d lt all = each-at xs i d (omega (arith, lt)) all.1

  pub each-filter : (p : X → Bool) (xs : List X) → AllByRecursion P xs → AllByRecursion P (filter p xs)
  each-filter p [] all = tt
  each-filter p (x ∷ xs) all = by-test (p x) (each-filter p xs all.1)
    where
      by-test : (b : Bool) → AllByRecursion P (filter p xs) → AllByRecursion P (cond b (x ∷ filter p xs) (filter p xs))
      by-test true rest = (all.0, rest)
      by-test false rest = rest

  pub each-imp : (Q : X → Type 0) → ((x : X) → P x → Q x) → (xs : List X) → AllByRecursion P xs → AllByRecursion Q xs
  each-imp Q weaken [] all = tt
  each-imp Q weaken (x ∷ xs) all = (weaken x all.0, each-imp Q weaken xs all.1)

pub fewer-filter : {X : Type 0} (p : X → Bool) (xs : List X) → length (filter p xs) ≤ length xs
fewer-filter p [] = omega arith
fewer-filter p (x ∷ xs) = by-test (p x) (fewer-filter p xs)
  where
    by-test : (b : Bool) → length (filter p xs) ≤ length xs
        → length (cond b (x ∷ filter p xs) (filter p xs)) ≤ length (x ∷ xs)
    by-test true le = omega (arith, le)
    by-test false le = omega (arith, le)

-- what a search finds stands at the place that it finds
pub position-find : {X : Type 0} (p : X → Bool) (xs : List X) (o : Option ℕ) → o ≡ position p xs
    → IfSome o (λ i. (d : X) → find p xs ≡ Some (get_or xs i d))
position-find {X} p xs o is =
    subst (λ (o : Option ℕ). IfSome o (λ i. (d : X) → find p xs ≡ Some (get_or xs i d))) (sym is)
    (by-test (nat_lt (position_or_len p xs) (length xs)) refl)
  where
    by-test : (b : Bool) → nat_lt (position_or_len p xs) (length xs) ≡ b
        → IfSome (cond b (Some (position_or_len p xs)) None) (λ i. (d : X) → find p xs ≡ Some (get_or xs i d))
    by-test true lt = λ d. find_at p xs ∙ slice_get-get_or xs _ d (ltb-true _ _ lt)
    by-test false lt = tt

pub position-none : {X : Type 0} (p : X → Bool) (xs : List X) → position p xs ≡ None → find p xs ≡ None
position-none {X} p xs none = by-test (nat_lt (position_or_len p xs) (length xs)) refl none
  where
    by-test : (b : Bool) → nat_lt (position_or_len p xs) (length xs) ≡ b
        → cond b (Some (position_or_len p xs)) None ≡ None → find p xs ≡ None
    by-test true lt some = absurd (cc some)
    by-test false lt some = find_at p xs ∙ slice_get_past xs _ (ltb-false _ _ lt)

-- where a search finds none, none passes
pub none-passes : {X : Type 0} (p : X → Bool) (xs : List X) → find p xs ≡ None → AllByRecursion (λ x. p x ≡ false) xs
none-passes p [] e = tt
none-passes {X} p (x ∷ xs) e = by-test (p x) refl e (none-passes p xs)
  where
    by-test : (b : Bool) → p x ≡ b → cond b (Some x) (find p xs) ≡ None
        → (find p xs ≡ None → AllByRecursion (λ y. p y ≡ false) xs) → AllByRecursion (λ y. p y ≡ false) (x ∷ xs)
    by-test true q some rest = absurd (cc some)
    by-test false q none rest = (q, rest none)
