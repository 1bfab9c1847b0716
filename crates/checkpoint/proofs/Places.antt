-- Where the halves lie.
use Rattle.std.proofs.Common.{◌≡◌, ◌⊎◌, inl, inr, ⊎_elim, ℕ, zero, suc, ◌+◌, ◌<◌, ◌≤◌, ◌^◌, ltb, eqb, List, refl, sym, ◌∙◌, ap, subst, arith, lit<, lit≤}
use Rattle.std.proofs.lemmas.Bool.{cases_Bool, cond-true, cond-false}
use Rattle.checkpoint.specs.Halves.{HasHalf, HasPair, layout_1, layout_2, layout_of, begins, other}
use Rattle.checkpoint.specs.declared.layout.Layout.{Layout}

-- what the proofs need of a layout
pub record IsSound (layout : Layout) : Type 0 where
  pub short : layout.state_max < 2 ^ 32
  pub fits : 13 + layout.state_max ≤ layout.journal_at
  pub some : 0 < layout.journal_len
  pub apart : layout.lower + layout.journal_at + layout.journal_len ≤ layout.upper
  pub ends : layout.upper + layout.journal_at + layout.journal_len < 2 ^ 32
  pub below : layout.low + 1 < 4
  pub mine : layout_of layout.low ≡ layout
  pub next : layout_of (layout.low + 1) ≡ layout

pub sound : (half : ℕ) → IsSound (layout_of half)
unfolding layout_of
sound half = elim (cases_Bool (ltb half 2)) [
  | inl below ↦ subst IsSound (sym (cond-true (ltb half 2) layout_1 layout_2 below))
      (record {
        short = lit< tt;
        fits = lit≤ tt;
        some = lit< tt;
        apart = lit≤ tt;
        ends = lit< tt;
        below = lit< tt;
        mine = refl;
        next = refl;
      })
  | inr above ↦ subst IsSound (sym (cond-false (ltb half 2) layout_1 layout_2 above))
      (record {
        short = lit< tt;
        fits = lit≤ tt;
        some = lit< tt;
        apart = lit≤ tt;
        ends = lit< tt;
        below = lit< tt;
        mine = refl;
        next = refl;
      })
]

-- a fact of each half
pub each_half : (P : ℕ → Type 0) → P 0 → P 1 → P 2 → P 3 → (half : ℕ) → half < 4 → P half
each_half P p0 p1 p2 p3 zero lt = p0
each_half P p0 p1 p2 p3 (suc zero) lt = p1
each_half P p0 p1 p2 p3 (suc (suc zero)) lt = p2
each_half P p0 p1 p2 p3 (suc (suc (suc zero))) lt = p3
each_half P p0 p1 p2 p3 (suc (suc (suc (suc half)))) lt = absurd (omega (arith, lt))

-- the other half of a pair
pub record IsPaired (half : ℕ) : Type 0 where
  pub below : other half < 4
  pub back : other (other half) ≡ half
  pub apart : (begins (other half) + (layout_of half).journal_at + (layout_of half).journal_len ≤ begins half)
      ⊎ (begins half + (layout_of half).journal_at + (layout_of half).journal_len ≤ begins (other half))
  pub order : ((half ≡ (layout_of half).low) × (other half ≡ (layout_of half).low + 1)) ⊎
      ((half ≡ (layout_of half).low + 1) × (other half ≡ (layout_of half).low))

pub paired : (half : ℕ) → half < 4 → IsPaired half
unfolding layout_of begins other
paired half lt = each_half IsPaired
    (record { below = lit< tt; back = refl; apart = inr (lit≤ tt); order = inl (refl, refl) })
    (record { below = lit< tt; back = refl; apart = inl (lit≤ tt); order = inr (refl, refl) })
    (record { below = lit< tt; back = refl; apart = inr (lit≤ tt); order = inl (refl, refl) })
    (record { below = lit< tt; back = refl; apart = inl (lit≤ tt); order = inr (refl, refl) })
    half lt

-- both halves of a pair have one layout
pub same_layout : (half : ℕ) → layout_of (other half) ≡ layout_of half
unfolding other
same_layout half = elim (cases_Bool (eqb half (layout_of half).low)) [
  | inl is ↦ ap layout_of (cond-true (eqb half (layout_of half).low) _ _ is) ∙ (sound half).next
  | inr not ↦ ap layout_of (cond-false (eqb half (layout_of half).low) _ _ not) ∙ (sound half).mine
]

-- a half lies where one of its pair does
pub placed_in : (half : ℕ) → (begins half ≡ (layout_of half).lower) ⊎ (begins half ≡ (layout_of half).upper)
unfolding begins
placed_in half = elim (cases_Bool (eqb half (layout_of half).low)) [
  | inl is ↦ inl (cond-true (eqb half (layout_of half).low) _ _ is)
  | inr not ↦ inr (cond-false (eqb half (layout_of half).low) _ _ not)
]

-- a half lies within the disk where its pair does
pub pair_has : (half : ℕ) (bytes : List ℕ) → HasPair (layout_of half) bytes → HasHalf half bytes
pair_has half bytes has = ⊎_elim
    (λ lower. omega (arith, lower, (sound half).apart, has))
    (λ upper. omega (arith, upper, has))
    (placed_in half)

-- a number that is the other half's
pub other_below : (half h : ℕ) → half < 4 → h ≡ other half → h < 4
other_below half h lt is = subst (λ (k : ℕ). k < 4) (sym is) (paired half lt).below

pub other_layout : (half h : ℕ) → half < 4 → h ≡ other half → layout_of h ≡ layout_of half
other_layout half h lt is = ap layout_of is ∙ same_layout half

pub other_has : (half h : ℕ) (bytes : List ℕ) → half < 4 → h ≡ other half → HasPair (layout_of half) bytes
    → HasHalf h bytes
other_has half h bytes lt is has =
    pair_has h bytes (subst (λ (l : Layout). HasPair l bytes) (sym (other_layout half h lt is)) has)
