-- A list taken in member by member.
use Rattle.std.proofs.Common.{◌≡◌, ℕ, zero, suc, ◌+◌, ◌<◌, List, [], ◌∷◌, ◌++◌, length, take, get_or, map, Option, Some, None, option_map, option_and_then, refl, sym, ◌∙◌, ap, arith}
use Rattle.std.proofs.lemmas.Grind.{take_at_read}
use Rattle.std.proofs.lemmas.List.{map-append}
use Rattle.serde_json.specs.Data.{Data}
use Rattle.serde_json.specs.View.{view, items_view}
use Rattle.serde_json.specs.declared.value.Value.{Value}
use Rattle.manifest.specs.Trees.{all_of, items_list}

module _ {A B : Type 0} (f : A → Option B) where
  first_one : (o : Option B) → option_and_then (λ y. option_map (λ ys. y ∷ ys) (Some [])) o ≡ option_map (λ w. w ∷ []) o
  first_one None = refl
  first_one (Some y) = refl

  pushed : (o : Option B) (r : Option (List B)) (p : Option B)
      → option_and_then (λ y. option_map (λ ys. y ∷ ys) (option_and_then (λ ys. option_map (λ w. ys ++ w ∷ []) p) r)) o
      ≡ option_and_then (λ ys. option_map (λ w. ys ++ w ∷ []) p) (option_and_then (λ y. option_map (λ ys. y ∷ ys) r) o)
  pushed None r p = refl
  pushed (Some y) None p = refl
  pushed (Some y) (Some ys) None = refl
  pushed (Some y) (Some ys) (Some w) = refl

  nothing : (o : Option B) → option_and_then (λ y. option_map (λ (ys : List B). y ∷ ys) None) o ≡ None
  nothing None = refl
  nothing (Some y) = refl

module _ {V A B : Type 0} (f : A → Option B) (g : V → A) where
  pub next_one : (vs : List V) (i : ℕ) (d : V) → i < length vs
      → all_of f (map g (take (suc i) vs))
      ≡ option_and_then (λ ys. option_map (λ w. ys ++ w ∷ []) (f (g (get_or vs i d))))
      (all_of f (map g (take i vs)))
  next_one [] i d h = absurd (omega arith)
  next_one (v ∷ vs) zero d h = first_one f (f (g v))
  next_one (v ∷ vs) (suc i) d h =
      rw (next_one vs i d (omega arith)) (pushed f (f (g v)) (all_of f (map g (take i vs))) (f (g (get_or vs i d))))

  -- one more member, x, that has a value
  pub all_of-more : (vs : List V) (i : ℕ) (x : V) (ys : List B) (y : B) → i < length vs → x ≡ get_or vs i x
      → all_of f (map g (take i vs)) ≡ Some ys → f (g x) ≡ Some y
      → all_of f (map g (take (i + 1) vs)) ≡ Some (ys ++ y ∷ [])
  all_of-more vs i x ys y h at taken one =
      let e : i + 1 ≡ suc i = omega arith in
      let here : f (g (get_or vs i x)) ≡ Some y = ap (λ v. f (g v)) (sym at) ∙ one in
      rw (e, next_one vs i x h, taken, here) refl

  pub none_at : (vs : List V) (i : ℕ) (d : V) → i < length vs → f (g (get_or vs i d)) ≡ None
      → all_of f (map g vs) ≡ None
  none_at [] i d h e = absurd (omega arith)
  none_at (v ∷ vs) zero d h e = rw e refl
  none_at (v ∷ vs) (suc i) d h e = rw (none_at vs i d (omega arith) e) (nothing f (f (g v)))

  -- a member, x, that has none
  pub all_of-stop : (vs : List V) (i : ℕ) (x : V) → i < length vs → x ≡ get_or vs i x → f (g x) ≡ None
      → all_of f (map g vs) ≡ None
  all_of-stop vs i x h at e = none_at vs i x h (ap (λ v. f (g v)) (sym at) ∙ e)

pub items_list-view : (vs : List Value) → items_list (items_view vs) ≡ map view vs
items_list-view [] = refl
items_list-view (v ∷ vs) = ap (λ ds. view v ∷ ds) (items_list-view vs)

-- one more member, v, that is seen as x is
pub mapped-more : {A : Type 0} (f : A → Data) (xs : List A) (i : ℕ) (x : A) (vs : List Value) (v : Value)
    → i < length xs → x ≡ get_or xs i x
    → map view vs ≡ map f (take i xs) → view v ≡ f x → map view (vs ++ v ∷ []) ≡ map f (take (i + 1) xs)
mapped-more f xs i x vs v h at before one =
    let last = (take_at_read xs i x h).1 in
    let here : view v ≡ f (get_or xs i x) = one ∙ ap f at in
    rw (last, map-append view vs (v ∷ []), map-append f (take i xs) (get_or xs i x ∷ []), before, here) refl
