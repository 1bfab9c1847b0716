-- Sums over views, and parts.
use Rattle.std.proofs.Common.{◌≡◌, ◌≢◌, inl, inr, ⊎_elim, ℕ, zero, suc, ◌+◌, ◌<◌, ◌≤◌, Bool, true, false, cond, eqb, List, [], ◌∷◌, ◌++◌, length, set, refl, sym, ◌∙◌, ap, arith, Option, Some, None}
use Rattle.std.proofs.lemmas.Bool.{cond-true, eq-eqb}
use mathlib.Core.Option.{some, some-injective, some-ne-none}
use lib.ListN.{get_elem?}
use Rattle.turn_gate.specs.declared.view.Account.{Account}
use Rattle.turn_gate.specs.declared.view.Part.{Part}
use Rattle.turn_gate.specs.Parts.{is_of, times, numbers_of, doubt_of, parts_of, but, just, without, only, PartFits, PartsFit, StaysOrStood, total}

module _ {A : Type 0} (f : A → ℕ) where
  pub total_set : (l : List A) (i : ℕ) (v w : A) → get_elem? l i ≡ some v → total f (set l i w) + f v ≡ total f l + f w
  total_set [] i v w e = absurd (some-ne-none v (sym e))
  total_set (x ∷ xs) zero v w e = let is : f x ≡ f v = ap f (some-injective x v e) in omega (arith, is)
  total_set (x ∷ xs) (suc i) v w e = omega (arith, total_set xs i v w e)

  pub total_at : (l : List A) (i : ℕ) (v : A) → get_elem? l i ≡ some v → f v ≤ total f l
  total_at [] i v e = absurd (some-ne-none v (sym e))
  total_at (x ∷ xs) zero v e = let is : f x ≡ f v = ap f (some-injective x v e) in omega (arith, is)
  total_at (x ∷ xs) (suc i) v e = omega (arith, total_at xs i v e)

  pub total_two : (l : List A) (i j : ℕ) (v w : A) → get_elem? l i ≡ some v → get_elem? l j ≡ some w → i ≢ j
      → f v + f w ≤ total f l
  total_two [] i j v w p q n = absurd (some-ne-none v (sym p))
  total_two (x ∷ xs) zero zero v w p q n = absurd (n refl)
  total_two (x ∷ xs) zero (suc j) v w p q n =
      let is : f x ≡ f v = ap f (some-injective x v p) in omega (arith, is, total_at xs j w q)
  total_two (x ∷ xs) (suc i) zero v w p q n =
      let is : f x ≡ f w = ap f (some-injective x w q) in omega (arith, is, total_at xs i v p)
  total_two (x ∷ xs) (suc i) (suc j) v w p q n = omega (arith, total_two xs i j v w p q (λ e. n (ap suc e)))

  pub total_snoc : (l : List A) (w : A) → total f (l ++ w ∷ []) ≡ total f l + f w
  total_snoc [] w = omega arith
  total_snoc (x ∷ xs) w = omega (arith, total_snoc xs w)

module _ {E : Type 0} (tells : E → Option ℕ) where
  pub numbers_of-parts_of : (a : Account E) (ns : List ℕ) → numbers_of (parts_of tells a ns) ≡ ns
  numbers_of-parts_of a [] = refl
  numbers_of-parts_of a (n ∷ ns) = ap (λ (l : List ℕ). n ∷ l) (numbers_of-parts_of a ns)

  pub length-parts_of : (a : Account E) (ns : List ℕ) → length (parts_of tells a ns) ≡ length ns
  length-parts_of a [] = refl
  length-parts_of a (n ∷ ns) = omega (arith, length-parts_of a ns)

  pub length-numbers_of : (ps : List (Part E)) → length (numbers_of ps) ≡ length ps
  length-numbers_of [] = refl
  length-numbers_of (p ∷ ps) = omega (arith, length-numbers_of ps)

  doubt_is : (pend : Option E) (n : ℕ) (e : E) → pend ≡ Some e → is_of (tells e) n ≡ true
      → doubt_of tells pend n ≡ Some e
  doubt_is pend n e is told =
      ap (λ (o : Option E). doubt_of tells o n) is ∙ cond-true {A = Option E} (is_of (tells e) n) (Some e) None told

  pub parts_of_fit : (a : Account E) (ns : List ℕ) → PartsFit tells a (parts_of tells a ns)
  parts_of_fit a [] = tt
  parts_of_fit a (n ∷ ns) = (
    record { own_is = inl refl; pending_is = λ e is told. (doubt_is a.pending n e is told, refl) },
    parts_of_fit a ns,
  )

  part_stays : (a next : Account E) (p : Part E) → StaysOrStood tells a next p.number → PartFits tells a p
      → PartFits tells next p
  part_stays a next p (inl stays) fit = record {
    own_is = ⊎_elim (λ is. inl (stays.0 ∙ is)) (λ t. inr (t.0, t.1, stays.0 ∙ t.2)) fit.own_is;
    pending_is = λ e is told. let was = fit.pending_is e (stays.1 e is told) told in (was.0, stays.0 ∙ was.1);
  }
  part_stays a next p (inr stood) fit =
      let was = fit.pending_is stood.0 stood.1 stood.2 in
      record {
        own_is = inr (stood.0, was.0, stood.3 ∙ ap (λ (l : List E). l ++ stood.0 ∷ []) was.1);
        pending_is = λ d is told. absurd (stood.4 d is told);
      }

  here : (n : ℕ) (ns : List ℕ) → 0 < times n (n ∷ ns)
  here n ns = omega (arith, cond-true {A = ℕ} (eqb n n) 1 0 (eq-eqb n n refl))

  -- the parts of another seat
  pub parts_stay : (a next : Account E) (ps : List (Part E))
      → ((n : ℕ) → 0 < times n (numbers_of ps) → StaysOrStood tells a next n) → PartsFit tells a ps
      → PartsFit tells next ps
  parts_stay a next [] same fit = tt
  parts_stay a next (p ∷ ps) same fit = (
    part_stays a next p (same p.number (here p.number (numbers_of ps))) fit.0,
    parts_stay a next ps (λ n some_there. same n (omega (arith, some_there))) fit.1,
  )

  pub times-append : (n : ℕ) (ps qs : List (Part E))
      → times n (numbers_of (ps ++ qs)) ≡ times n (numbers_of ps) + times n (numbers_of qs)
  times-append n [] qs = omega arith
  times-append n (p ∷ ps) qs = omega (arith, times-append n ps qs)

  pub fit-append : (a : Account E) (ps qs : List (Part E)) → PartsFit tells a ps → PartsFit tells a qs
      → PartsFit tells a (ps ++ qs)
  fit-append a [] qs p q = q
  fit-append a (x ∷ xs) qs p q = (p.0, fit-append a xs qs p.1 q)

  times-but : (k n : ℕ) (ps : List (Part E))
      → times n (numbers_of (but k ps)) + times n (numbers_of (just k ps)) ≡ times n (numbers_of ps)
  times-but k n [] = refl
  times-but k n (p ∷ ps) = go (times-but k n ps) (eqb p.number k)
    where
      go : times n (numbers_of (but k ps)) + times n (numbers_of (just k ps)) ≡ times n (numbers_of ps) → (b : Bool)
          → times n (numbers_of (cond b (but k ps) (p ∷ but k ps))) + times n
          (numbers_of (cond b (p ∷ just k ps) (just k ps))) ≡ times n (numbers_of (p ∷ ps))
      go h true = omega (arith, h)
      go h false = omega (arith, h)

  pub times-split : (k : Option ℕ) (n : ℕ) (ps : List (Part E))
      → times n (numbers_of (without k ps)) + times n (numbers_of (only k ps)) ≡ times n (numbers_of ps)
  times-split None n ps = omega arith
  times-split (Some k) n ps = times-but k n ps

  fit-but : (a : Account E) (k : ℕ) (ps : List (Part E)) → PartsFit tells a ps → PartsFit tells a (but k ps)
  fit-but a k [] fit = tt
  fit-but a k (p ∷ ps) fit = go (fit-but a k ps fit.1) (eqb p.number k)
    where
      go : PartsFit tells a (but k ps) → (b : Bool) → PartsFit tells a (cond b (but k ps) (p ∷ but k ps))
      go h true = h
      go h false = (fit.0, h)

  pub fit-without : (a : Account E) (k : Option ℕ) (ps : List (Part E)) → PartsFit tells a ps
      → PartsFit tells a (without k ps)
  fit-without a None ps fit = fit
  fit-without a (Some k) ps fit = fit-but a k ps fit

  fit-just : (a : Account E) (k : ℕ) (ps : List (Part E)) → PartsFit tells a ps → PartsFit tells a (just k ps)
  fit-just a k [] fit = tt
  fit-just a k (p ∷ ps) fit = go (fit-just a k ps fit.1) (eqb p.number k)
    where
      go : PartsFit tells a (just k ps) → (b : Bool) → PartsFit tells a (cond b (p ∷ just k ps) (just k ps))
      go h true = (fit.0, h)
      go h false = h

  pub fit-only : (a : Account E) (k : Option ℕ) (ps : List (Part E)) → PartsFit tells a ps
      → PartsFit tells a (only k ps)
  fit-only a None ps fit = tt
  fit-only a (Some k) ps fit = fit-just a k ps fit

  -- a list of parts has a part, or none of any number
  pub some_part : (ps : List (Part E)) → 0 < length ps → (n : ℕ) × (0 < times n (numbers_of ps))
  some_part [] some_there = absurd (omega arith)
  some_part (p ∷ ps) some_there = (p.number, here p.number (numbers_of ps))

  length-but : (k : ℕ) (ps : List (Part E)) → length (but k ps) + length (just k ps) ≡ length ps
  length-but k [] = refl
  length-but k (p ∷ ps) = go (length-but k ps) (eqb p.number k)
    where
      go : length (but k ps) + length (just k ps) ≡ length ps → (b : Bool)
          → length (cond b (but k ps) (p ∷ but k ps)) + length (cond b (p ∷ just k ps) (just k ps)) ≡ length (p ∷ ps)
      go h true = omega (arith, h)
      go h false = omega (arith, h)

  pub length-split : (k : Option ℕ) (ps : List (Part E)) → length (without k ps) + length (only k ps) ≡ length ps
  length-split None ps = omega arith
  length-split (Some k) ps = length-but k ps
