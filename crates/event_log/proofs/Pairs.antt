-- The halves of a pair, by the half that a caller names.
use Rattle.std.proofs.Common.{◌≡◌, ◌⊎◌, ⊎_elim, ℕ, ◌+◌, ◌<◌, List, Option, Some, None, sym, ◌∙◌, ap, subst, arith}
use Rattle.std.specs.Option.{IfSome}
use Rattle.checkpoint.specs.Halves.{HasHalf, HasPair, layout_of}
use Rattle.checkpoint.specs.declared.layout.Layout.{Layout}
use Rattle.checkpoint.proofs.Places.{sound, pair_has}

module _ (half : ℕ) (layout : Layout) (is : layout ≡ layout_of half) where
  pub next_below : layout.low + 1 < 4
  next_below = subst (λ (l : Layout). l.low + 1 < 4) (sym is) (sound half).below

  pub low_below : layout.low < 4
  low_below = omega (arith, next_below)

  low_layout : layout_of layout.low ≡ layout_of half
  low_layout = ap (λ (l : Layout). layout_of l.low) is ∙ (sound half).mine

  next_layout : layout_of (layout.low + 1) ≡ layout_of half
  next_layout = ap (λ (l : Layout). layout_of (l.low + 1)) is ∙ (sound half).next

  pub low_has : (image : List ℕ) → HasPair (layout_of half) image → HasHalf layout.low image
  low_has image has = pair_has layout.low image (subst (λ (l : Layout). HasPair l image) (sym low_layout) has)

  pub next_has : (image : List ℕ) → HasPair (layout_of half) image → HasHalf (layout.low + 1) image
  next_has image has = pair_has (layout.low + 1) image (subst (λ (l : Layout). HasPair l image) (sym next_layout) has)

  pub in_pair : (h : ℕ) → (h ≡ layout.low) ⊎ (h ≡ layout.low + 1) → (h < 4) × (layout_of h ≡ layout_of half)
  in_pair h = ⊎_elim
      (λ first. (subst (λ (k : ℕ). k < 4) (sym first) low_below, ap layout_of first ∙ low_layout))
      (λ second. (subst (λ (k : ℕ). k < 4) (sym second) next_below, ap layout_of second ∙ next_layout))

pub if_some : {A : Type 0} (P Q : A → Type 0) (o : Option A) → ((a : A) → P a → Q a) → IfSome o P → IfSome o Q
if_some P Q None weaken is = tt
if_some P Q (Some a) weaken is = weaken a is
