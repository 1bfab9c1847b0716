-- The bytes outside the halves.
use Rattle.std.proofs.Common.{⊎_elim, ℕ, ◌+◌, ◌-◌, ◌≤◌, List, subst, arith}
use Rattle.disk_core.specs.Bytes.{Torn}
use Rattle.disk_core.specs.Images.{EachImage, Only, From}
use Rattle.disk_core.specs.Moments.{LeavesOnly}
use Rattle.disk_core.proofs.Pieces.{torn_none}
use Rattle.disk_core.proofs.Moments.{settled, joined}
use Rattle.disk_area.proofs.Steps.{torn_both, torn_wider}
use Rattle.disk_area.specs.Windows.{InArea}
use Rattle.checkpoint.specs.Halves.{layout_of, begins, other, head_area, journal_area}
use Rattle.checkpoint.specs.Counting.{MayClose, MayOpen}
use Rattle.checkpoint.specs.declared.layout.Layout.{Layout}
use Rattle.checkpoint.proofs.Places.{sound, placed_in, same_layout}
use Rattle.checkpoint.proofs.Switches.{gate_in_head}
use Rattle.event_log.specs.Beside.{InHalves}

-- where a half lies in its pair
module _ (half : ℕ) where
  pub not_before : (layout_of half).lower ≤ begins half
  not_before = ⊎_elim (λ lower. omega (arith, lower)) (λ upper. omega (arith, upper, (sound half).apart))
      (placed_in half)

  pub not_behind : begins half + (layout_of half).journal_at + (layout_of half).journal_len ≤
      (layout_of half).upper + (layout_of half).journal_at + (layout_of half).journal_len
  not_behind = ⊎_elim (λ lower. omega (arith, lower, (sound half).apart)) (λ upper. omega (arith, upper))
      (placed_in half)

  pub by_head : (x y : List ℕ) → Torn (head_area half).at (head_area half).len x y → InHalves (layout_of half) x y
  by_head x y torn = torn_wider (begins half) ((layout_of half).journal_at + 1) (layout_of half).lower
      ((layout_of half).upper + (layout_of half).journal_at + (layout_of half).journal_len -
      (layout_of half).lower) x y not_before
      (omega (arith, not_before, not_behind, (sound half).some)) torn

  in_journal : (x y : List ℕ) → Torn (journal_area half).at (journal_area half).len x y → InHalves (layout_of half) x y
  in_journal x y torn = torn_wider (begins half + (layout_of half).journal_at) (layout_of half).journal_len
      (layout_of half).lower ((layout_of half).upper + (layout_of half).journal_at + (layout_of half).journal_len -
      (layout_of half).lower) x y
      (omega (arith, not_before)) (omega (arith, not_before, not_behind)) torn

  pub by_journal : (step : List ℕ → List ℕ → Type 0) (s : List ℕ) (images : List ℕ → Type 0) → Only s images
      → EachImage (From images (InArea (journal_area half) step)) (InHalves (layout_of half) s)
  by_journal step s images only c from = subst (λ (d : List ℕ). InHalves (layout_of half) d c) (only from.0 from.1)
      (in_journal from.0 c from.2.outside)

-- the other half's head
module _ (half : ℕ) where
  by_other : (x y : List ℕ) → Torn (head_area (other half)).at (head_area (other half)).len x y
      → InHalves (layout_of half) x y
  by_other x y torn = subst (λ (l : Layout). InHalves l x y) (same_layout half) (by_head (other half) x y torn)

  pub by_closing : (x y : List ℕ) → MayClose (other half) x y → InHalves (layout_of half) x y
  by_closing x y may = by_other x y may.outside

  pub by_opening : (x y : List ℕ) → MayOpen (other half) x y → InHalves (layout_of half) x y
  by_opening x y may = ⊎_elim
      (λ shut. by_other x y (gate_in_head (other half) x y shut.gate))
      (λ opens. by_other x y (gate_in_head (other half) x y opens.gate))
      may

module _ {D : Type 0} (moment : D → ℕ) (left_since : D → ℕ → List ℕ → Type 0) (images : D → List ℕ
    → Type 0) (layout : Layout) (old : D) (s : List ℕ) (only : Only s (images old)) (here : EachImage
    (left_since old (moment old)) (images old)) where
  pub nowhere : LeavesOnly moment left_since old old (InHalves layout s)
  nowhere = settled moment left_since old s (images old) (InHalves layout s) only here (torn_none _ _ s)

-- one run after another
pub then_elsewhere : {D : Type 0} (moment : D → ℕ) (left_since : D → ℕ → List ℕ
    → Type 0) (layout : Layout) (old mid new : D) (s m : List ℕ) (P : List ℕ
    → Type 0) → LeavesOnly moment left_since old mid (InHalves layout s) → InHalves layout s m
    → EachImage P (InHalves layout m) → LeavesOnly moment left_since mid new P
    → LeavesOnly moment left_since old new (InHalves layout s)
then_elsewhere moment left_since layout old mid new s m P first at_mid weaken second =
    joined moment left_since old mid new (InHalves layout s) P first second
    (λ c p. torn_both _ _ s m c at_mid (weaken c p))
