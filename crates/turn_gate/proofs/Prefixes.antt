-- Beginnings of lists, and lists of views.
use Rattle.std.proofs.Common.{◌≡◌, ◌≢◌, ⊎_elim, ℕ, zero, suc, ◌≤◌, List, [], ◌∷◌, ◌++◌, length, take, drop, set, refl, sym, ◌∙◌, ap, subst, arith, append_assoc, length-append, Option, Some, None}
use Rattle.std.proofs.lemmas.List.{append-nil, take-append-le, take-append-drop, take_all}
use mathlib.Core.Option.{some, some-injective, some-ne-none}
use mathlib.Core.List.{IsPrefix}
use lib.ListN.{get_elem?}
use Rattle.atomic_table.proofs.Lists.{at_set, at_snoc}

module _ {A : Type 0} where
  pub prefix_same : (xs ys : List A) → xs ≡ ys → IsPrefix xs ys
  prefix_same xs ys is = ([], append-nil xs ∙ is)

  pub prefix_trans : (xs ys zs : List A) → IsPrefix xs ys → IsPrefix ys zs → IsPrefix xs zs
  prefix_trans xs ys zs p q = (p.0 ++ q.0, sym (append_assoc xs p.0 q.0) ∙ ap (λ (l : List A). l ++ q.0) p.1 ∙ q.1)

  pub prefix_length : (xs ys : List A) → IsPrefix xs ys → length xs ≤ length ys
  prefix_length xs ys p = omega (arith, ap length p.1, length-append xs p.0)

  pub prefix_take : (xs ys : List A) (n : ℕ) → IsPrefix xs ys → n ≤ length xs → take n ys ≡ take n xs
  prefix_take xs ys n p le = ap (λ (l : List A). take n l) (sym p.1) ∙ take-append-le n xs p.0 le

  pub some_none : (o : Option A) (a : A) → o ≡ Some a → o ≡ None → ⊥
  some_none o a is none = let e : Some a ≡ None = sym is ∙ none in cc

  pub same_some : (o : Option A) (a b : A) → o ≡ Some a → o ≡ Some b → a ≡ b
  same_some o a b p q = let e : Some a ≡ Some b = sym p ∙ q in cc

  pub only_one : (l : List A) (x : A) (i : ℕ) (v : A) → l ≡ x ∷ [] → get_elem? l i ≡ some v → (i ≡ 0) × (v ≡ x)
  only_one l x i v is at = one i (subst (λ (ys : List A). get_elem? ys i ≡ some v) is at)
    where
      one : (j : ℕ) → get_elem? (x ∷ []) j ≡ some v → (j ≡ 0) × (v ≡ x)
      one zero e = (refl, sym (some-injective x v e))
      one (suc j) e = absurd (some-ne-none v (sym e))

  pub set_there : (l : List A) (i : ℕ) (a b : A) → get_elem? l i ≡ some a → get_elem? (set l i b) i ≡ some b
  set_there [] i a b e = absurd (some-ne-none a (sym e))
  set_there (x ∷ xs) zero a b e = refl
  set_there (x ∷ xs) (suc i) a b e = set_there xs i a b e

  -- what holds of each holds where one is replaced
  pub each_set : (P : A → Type 0) (l : List A) (id : ℕ) (w : A) → ((i : ℕ) (v : A) → get_elem? l i ≡ some v → P v) → P w
      → (i : ℕ) (v : A) → get_elem? (set l id w) i ≡ some v → P v
  each_set P l id w each here i v at =
      ⊎_elim (λ (t : (i ≡ id) × (w ≡ v)). subst P t.1 here) (λ (t : (i ≢ id) × (get_elem? l i ≡ some v)). each i v t.1)
      (at_set l id i w v at)

  pub is_some : (o : Option A) → (o ≡ None → ⊥) → (a : A) × (o ≡ Some a)
  is_some (Some a) h = (a, refl)
  is_some None h = absurd (h refl)

  pub at_same : (l : List A) (i : ℕ) (a b : A) → get_elem? l i ≡ some a → get_elem? l i ≡ some b → a ≡ b
  at_same l i a b p q = some-injective a b (sym p ∙ q)

  -- what is found in a list after one is replaced
  pub found_in_set : (l : List A) (id : ℕ) (w : A) (Q : ℕ → A → Type 0)
      → ((i : ℕ) (v : A) → get_elem? l i ≡ some v → i ≢ id → Q i v) → Q id w
      → (i : ℕ) (v : A) → get_elem? (set l id w) i ≡ some v → Q i v
  found_in_set l id w Q others here i v at =
      ⊎_elim (λ (t : (i ≡ id) × (w ≡ v)). subst (λ (j : ℕ). Q j v) (sym t.0) (subst (λ (x : A). Q id x) t.1 here))
      (λ (t : (i ≢ id) × (get_elem? l i ≡ some v)). others i v t.1 t.0) (at_set l id i w v at)

  pub prefix_whole : (xs ys : List A) → IsPrefix xs ys → length ys ≤ length xs → xs ≡ ys
  prefix_whole xs ys p le =
      sym (take_all (length xs) xs (omega arith)) ∙ sym (prefix_take xs ys (length xs) p (omega arith))
      ∙ take_all (length xs) ys le

  -- what is found in a list with one more at its end
  pub found_in_snoc : (l : List A) (w : A) (Q : ℕ → A → Type 0) → ((i : ℕ) (v : A) → get_elem? l i ≡ some v → Q i v)
      → ((i : ℕ) → Q i w)
      → (i : ℕ) (v : A) → get_elem? (l ++ w ∷ []) i ≡ some v → Q i v
  found_in_snoc l w Q before last i v at =
      ⊎_elim (λ there. before i v there) (λ same. subst (λ (x : A). Q i x) same (last i)) (at_snoc l w v i at)

  -- of two beginnings of one list the shorter begins the longer
  pub prefix_of_longer : (xs ys zs : List A) → IsPrefix xs zs → IsPrefix ys zs → length xs ≤ length ys → IsPrefix xs ys
  prefix_of_longer xs ys zs p q le =
      let same : take (length xs) ys ≡ xs = sym (prefix_take ys zs (length xs) q le)
      ∙ prefix_take xs zs (length xs) p (omega arith) ∙ take_all (length xs) xs (omega arith) in
      (drop (length xs) ys, ap (λ (l : List A). l ++ drop (length xs) ys) (sym same) ∙ take-append-drop (length xs) ys)
