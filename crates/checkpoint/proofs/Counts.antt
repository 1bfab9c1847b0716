-- Which half counts when one of the pair changes.
use Rattle.std.proofs.Common.{◌≡◌, ◌≢◌, ◌⊎◌, inl, inr, ⊎_elim, ℕ, ◌+◌, ◌<◌, Bool, true, false, eqb, ltb, List, Option, Some, None, refl, sym, ◌∙◌, ap, subst, arith}
use Rattle.std.proofs.lemmas.Bool.{cases_Bool, cond-true, cond-false, eq-eqb, ne_eqb}
use Rattle.std.proofs.lemmas.Bool.Decides.{nat_tests}
use Rattle.std.specs.Option.{option_map, IfSome}
use Rattle.checkpoint.specs.Halves.{Body, layout_of, other, half_of, stored_in}
use Rattle.checkpoint.specs.Counting.{told, newest, counting, IsSpare, IsNewer, IsAbove, MayClose, Opens}
use Rattle.checkpoint.proofs.Places.{paired}

-- the halves of a pair in order, of which this one holds mine, as the lower or not
abbrev placed : Bool → ℕ → Option Body → Option Body → Option (ℕ × Body)
placed true low mine theirs = newest low mine theirs
placed false low mine theirs = newest low theirs mine

-- its number
abbrev number : Bool → ℕ → ℕ
number true low = low
number false low = low + 1

next_apart : (low : ℕ) → low ≡ low + 1 → ⊥
next_apart low is = omega (arith, is)

-- a half that doesn't count may read as nothing
spare_none : (lower : Bool) (low : ℕ) (mine theirs : Option Body)
    → IfSome (placed lower low mine theirs) (λ counts. counts.0 ≢ number lower low)
    → placed lower low None theirs ≡ placed lower low mine theirs
spare_none true low None theirs spare = refl
spare_none true low (Some a) None spare = absurd (spare refl)
spare_none true low (Some a) (Some b) spare = elim (cases_Bool (ltb a.generation b.generation)) [
  | inl less ↦ sym (cond-true (ltb a.generation b.generation) _ _ less)
  | inr not ↦ absurd (subst (λ (o : Option (ℕ × Body)). IfSome o (λ counts. counts.0 ≢ low))
      (cond-false (ltb a.generation b.generation) _ _ not) spare refl)
]
spare_none false low None None spare = refl
spare_none false low None (Some a) spare = refl
spare_none false low (Some b) None spare = absurd (spare refl)
spare_none false low (Some b) (Some a) spare = elim (cases_Bool (ltb a.generation b.generation)) [
  | inl less ↦ absurd (subst (λ (o : Option (ℕ × Body)). IfSome o (λ counts. counts.0 ≢ low + 1))
      (cond-true (ltb a.generation b.generation) _ _ less) spare refl)
  | inr not ↦ sym (cond-false (ltb a.generation b.generation) _ _ not)
]

-- a half above the other one counts
above_counts : (lower : Bool) (low : ℕ) (mine theirs : Option Body) → IsAbove mine theirs
    → placed lower low mine theirs ≡ option_map (λ body. (number lower low, body)) mine
above_counts lower low None theirs above = absurd above
above_counts true low (Some a) None above = refl
above_counts true low (Some a) (Some b) above =
    cond-false (ltb a.generation b.generation) _ _ (grind (arith, nat_tests))
above_counts false low (Some b) None above = refl
above_counts false low (Some b) (Some a) above =
    cond-true (ltb a.generation b.generation) _ _ (grind (arith, nat_tests))

-- the number and the body of the half that counts
half_in : Option (ℕ × Body) → ℕ → ℕ
half_in None none = none
half_in (Some counts) none = counts.0

body_in : Option (ℕ × Body) → Option Body
body_in None = None
body_in (Some counts) = Some counts.1

mine_counts : (lower : Bool) (low : ℕ) (mine theirs : Option Body) (body : Body)
    → placed lower low mine theirs ≡ Some (number lower low, body) → mine ≡ Some body
unfolding half_in body_in
mine_counts true low None None body is = cc
mine_counts true low None (Some b) body is = absurd (next_apart low (sym (ap (λ o. half_in o low) is)))
mine_counts true low (Some a) None body is = ap body_in is
mine_counts true low (Some a) (Some b) body is = elim (cases_Bool (ltb a.generation b.generation)) [
  | inl less ↦ absurd (next_apart low (sym
      (ap (λ o. half_in o low) (sym (cond-true (ltb a.generation b.generation) (Some (low + 1, b))
      (Some (low, a)) less) ∙ is))))
  | inr not ↦ ap body_in (sym (cond-false (ltb a.generation b.generation) (Some (low + 1, b)) (Some (low, a)) not) ∙ is)
]
mine_counts false low None None body is = cc
mine_counts false low None (Some a) body is = absurd (next_apart low (ap (λ o. half_in o low) is))
mine_counts false low (Some b) None body is = ap body_in is
mine_counts false low (Some b) (Some a) body is = elim (cases_Bool (ltb a.generation b.generation)) [
  | inl less ↦ ap body_in (sym (cond-true (ltb a.generation b.generation) (Some (low + 1, b)) (Some (low, a)) less)
      ∙ is)
  | inr not ↦ absurd (next_apart low (ap (λ o. half_in o low)
      (sym (cond-false (ltb a.generation b.generation) (Some (low + 1, b)) (Some (low, a)) not) ∙ is)))
]

-- where none counts there is none
pub none_counts : (low : ℕ) (a b : Option Body) → newest low a b ≡ None → (a ≡ None) × (b ≡ None)
none_counts low None None is = (refl, refl)
none_counts low None (Some b) is = cc
none_counts low (Some a) None is = cc
none_counts low (Some a) (Some b) is = elim (cases_Bool (ltb a.generation b.generation)) [
  | inl less ↦
      absurd (something (sym (cond-true (ltb a.generation b.generation) (Some (low + 1, b)) (Some (low, a)) less)
      ∙ is))
  | inr not ↦
      absurd (something (sym (cond-false (ltb a.generation b.generation) (Some (low + 1, b)) (Some (low, a)) not)
      ∙ is))
]
  where
    something : {A : Type 0} {a : A} → Some a ≡ None → ⊥
    something is = cc

module _ (tells : List ℕ → Bool) where
  told_reads : (o : Option Body) (body : Body) → told tells o ≡ Some body → o ≡ Some body
  told_reads None body is = cc
  told_reads (Some b) body is = elim (cases_Bool (tells b.state)) [
    | inl told_it ↦ sym (cond-true (tells b.state) (Some b) None told_it) ∙ is
    | inr untold ↦ absurd (nothing (sym (cond-false (tells b.state) (Some b) None untold) ∙ is))
  ]
    where
      nothing : {A : Type 0} {a : A} → None ≡ Some a → ⊥
      nothing is = cc

  told_newer : (generation : ℕ) (o : Option Body) → IsNewer generation o → IsNewer generation (told tells o)
  told_newer generation None newer = tt
  told_newer generation (Some b) newer = elim (cases_Bool (tells b.state)) [
    | inl told_it ↦ subst (λ (o : Option Body). IsNewer generation o)
        (sym (cond-true (tells b.state) (Some b) None told_it)) newer
    | inr untold ↦ subst (λ (o : Option Body). IsNewer generation o)
        (sym (cond-false (tells b.state) (Some b) None untold)) tt
  ]

  module _ (half : ℕ) (lt : half < 4) where
    lower : Bool
    lower = eqb half (layout_of half).low

    low : ℕ
    low = (layout_of half).low

    -- the two halves of its pair, in order
    in_order : (lower ≡ true) × (half ≡ low) × (other half ≡ low + 1) ⊎ (lower ≡ false) × (half ≡ low + 1) ×
        (other half ≡ low)
    unfolding low lower
    in_order = ⊎_elim
        (λ first. inl (eq-eqb half (layout_of half).low first.0, first.0, first.1))
        (λ second. inr (
          ne_eqb half (layout_of half).low
              (λ is. next_apart (layout_of half).low (sym is ∙ second.0)),
          second.0,
          second.1,
        ))
        (paired half lt).order

    number_is : number lower low ≡ half
    number_is = ⊎_elim
        (λ first. ap (λ (b : Bool). number b low) first.0 ∙ sym first.1)
        (λ second. ap (λ (b : Bool). number b low) second.0 ∙ sym second.1)
        in_order

    counting_is : (image : List ℕ)
        → counting tells (layout_of half).low image ≡ placed lower low (told tells (half_of half image))
        (told tells (half_of (other half) image))
    unfolding low
    counting_is image = ⊎_elim
        (λ first. (λ i. newest low (told tells (half_of (sym first.1 i) image))
        (told tells (half_of (sym first.2 i) image))) ∙ ap (λ (b : Bool). placed b low
        (told tells (half_of half image)) (told tells (half_of (other half) image))) (sym first.0))
        (λ second. (λ i. newest low (told tells (half_of (sym second.2 i) image))
        (told tells (half_of (sym second.1 i) image))) ∙ ap (λ (b : Bool). placed b low
        (told tells (half_of half image)) (told tells (half_of (other half) image))) (sym second.0))
        in_order

    -- the half that counts passes
    pub counting_told : (body : Body) (image : List ℕ)
        → counting tells (layout_of half).low image ≡ Some (half, body) → told tells (half_of half image) ≡ Some body
    counting_told body image is =
        mine_counts lower low (told tells (half_of half image)) (told tells (half_of (other half) image)) body
        (sym (counting_is image) ∙ is ∙ ap (λ (h : ℕ). Some (h, body)) (sym number_is))

    -- the half that counts reads as its body
    pub counting_reads : (body : Body) (image : List ℕ)
        → counting tells (layout_of half).low image ≡ Some (half, body) → half_of half image ≡ Some body
    counting_reads body image is = told_reads (half_of half image) body (counting_told body image is)

    module _ (old new : List ℕ) where
      -- where both halves read as before, the same one counts
      pub same_counting : half_of half new ≡ half_of half old → half_of (other half) new ≡ half_of (other half) old
          → counting tells (layout_of half).low new ≡ counting tells (layout_of half).low old
      same_counting mine theirs = counting_is new
          ∙ (λ i. placed lower low (told tells (mine i)) (told tells (theirs i))) ∙ sym (counting_is old)

      -- and where the half that doesn't count reads as nothing
      pub closing_counting : IsSpare tells half old → MayClose half old new
          → counting tells (layout_of half).low new ≡ counting tells (layout_of half).low old
      closing_counting spare may = ⊎_elim
          (λ same. same_counting same may.beside)
          (λ none. counting_is new ∙ (λ i. placed lower low (told tells (none i)) (told tells (may.beside i)))
          ∙ spare_none lower low (told tells (half_of half old)) (told tells (half_of (other half) old))
          (subst (λ (p : ℕ × Option (ℕ × Body)). IfSome p.1 (λ counts. counts.0 ≢ p.0))
          (λ i. (sym number_is i, counting_is old i)) spare)
          ∙ sym (counting_is old))
          may.reads

      -- an opened half counts, where its state passes
      pub opening_counting : (body : Body) → Opens half old new → stored_in half old ≡ Some body
          → tells body.state ≡ true → IsNewer body.generation (half_of (other half) old)
          → counting tells (layout_of half).low new ≡ Some (half, body)
      opening_counting body opens stored passes newer =
          let mine : told tells (half_of half new) ≡ Some body =
          ap (λ (o : Option Body). told tells o) (opens.reads ∙ stored)
          ∙ cond-true (tells body.state) (Some body) None passes in
          let theirs = ap (λ (o : Option Body). told tells o) opens.beside in
          counting_is new ∙ (λ i. placed lower low (mine i) (theirs i))
          ∙ above_counts lower low (Some body) (told tells (half_of (other half) old))
          (told_newer body.generation (half_of (other half) old) newer)
          ∙ ap (λ (h : ℕ). Some (h, body)) number_is
