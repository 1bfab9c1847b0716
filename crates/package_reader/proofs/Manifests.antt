-- Parts whose texts are read one after the other.
use Rattle.std.proofs.Common.{◌≡◌, ℕ, suc, ◌+◌, ◌<◌, List, [], ◌∷◌, ◌++◌, length, take, get_or, Option, Some, None, refl, sym, ◌∙◌, ap, add-one}
use Rattle.std.proofs.lemmas.List.{map-id}
use Rattle.manifest.specs.Trees.{all_of}
use Rattle.manifest.proofs.Lists.{next_one, none_at}

module _ {A B : Type 0} (f : A → Option B) (xs : List A) (i : ℕ) (d : A) (within : i < length xs) where
  -- one more, which has a value
  pub all-more : (ys : List B) (y : B) → all_of f (take i xs) ≡ Some ys → f (get_or xs i d) ≡ Some y
      → all_of f (take (i + 1) xs) ≡ Some (ys ++ y ∷ [])
  all-more ys y taken one =
      let before = ap (all_of f) (map-id (take i xs)) ∙ taken in
      let next = next_one f (λ x. x) xs i d within in
      ap (λ n. all_of f (take n xs)) (add-one i) ∙ ap (all_of f) (sym (map-id (take (suc i) xs))) ∙ next
      ∙ rw (before, one) refl

  -- one that has none
  pub all-stop : f (get_or xs i d) ≡ None → all_of f xs ≡ None
  all-stop none = ap (all_of f) (sym (map-id xs)) ∙ none_at f (λ x. x) xs i d within none
