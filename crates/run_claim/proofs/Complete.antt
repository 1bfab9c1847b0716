-- Without a rise and without fates nothing is left open, so that the campaign has a result.
use Rattle.std.specs.Prelude.{◌≡◌, ℕ, ◌≤◌, Bool, true, false, not, ◌&&◌, ◌||◌, ◌==◌, cond, List, [], ◌∷◌, length, filter, sum_by, is_some}
use Rattle.std.specs.List.{AllByRecursion, list_all}
use Rattle.std.proofs.Common.{refl, inl, inr, sym, ◌∙◌, subst, arith}
use Rattle.std.proofs.lemmas.Bool.{and_parts, eqb-true, eq-eqb}
use Rattle.std.proofs.lemmas.List.Sums.{sum_by-cons}
use Rattle.run_script.specs.declared.lines.FateLine.{FateLine}
use Rattle.run_claim.specs.Script.{Script}
use Rattle.run_claim.specs.Ended.{Ended, Series, Unfinished, Failure, is_unformatted}
use Rattle.sub_core.specs.declared.answers.Rises.{Rises}
use Rattle.sub_core.specs.Made.{has_none}
use Rattle.run_claim.specs.FailedAttempts.{Counted, IsSeries, OneSeries, UnfinishedHasSeries, has_risen, HasSums, losses_on, faults_on, losing_attempts, series_of, failure_of, is_failure, IsBounded}
use Rattle.sub_core.specs.Failures.{losses_in, faults_in}
use Rattle.run_claim.specs.Left.{result_of}
use Rattle.run_claim.specs.Law.{NoneRose, IsQuiet, SeriesAreThere}

-- what holds of each element holds of the one that passes a test
one-of : {A : Type 0} (P : A → Type 0) (p : A → Bool) (xs : List A) (x : A) (ys : List A) → AllByRecursion P xs
    → filter p xs ≡ x ∷ ys → P x × (p x ≡ true)
one-of P p [] x ys h e = absurd (cc e)
one-of {A} P p (y ∷ xs) x ys h e = go (p y) refl e (one-of P p xs x ys h.1)
  where
    go : (b : Bool) → p y ≡ b → cond b (y ∷ filter p xs) (filter p xs) ≡ x ∷ ys
        → (filter p xs ≡ x ∷ ys → P x × (p x ≡ true)) → P x × (p x ≡ true)
    go true q f rec = let same : y ≡ x = cc f in (subst P same h.0, subst (λ (z : A). p z ≡ true) same q)
    go false q f rec = rec f

-- its part of a sum over those that pass a weaker test
part-of : {A : Type 0} (f : A → ℕ) (p q : A → Bool) → ((x : A) → p x ≡ true → q x ≡ true)
    → (xs : List A) (x : A) (ys : List A) → filter p xs ≡ x ∷ ys → f x ≤ sum_by f (filter q xs)
part-of f p q weaker [] x ys e = absurd (cc e)
part-of {A} f p q weaker (y ∷ xs) x ys e = go (p y) refl (q y) refl e (part-of f p q weaker xs x ys)
  where
    more : (n : ℕ) → n ≤ sum_by f (filter q xs) → n ≤ sum_by f (y ∷ filter q xs)
    more n h = let s = sum_by-cons f y (filter q xs) in omega (arith, s, h)

    go : (b : Bool) → p y ≡ b → (c : Bool) → q y ≡ c → cond b (y ∷ filter p xs) (filter p xs) ≡ x ∷ ys
        → (filter p xs ≡ x ∷ ys → f x ≤ sum_by f (filter q xs))
        → f x ≤ sum_by f (cond c (y ∷ filter q xs) (filter q xs))
    go true u true v g rec =
        let same : y ≡ x = cc g in
        let s = sum_by-cons f y (filter q xs) in
        subst (λ (z : A). f z ≤ sum_by f (y ∷ filter q xs)) same (omega (arith, s))
    go true u false v g rec = absurd (let w = weaker y u in cc (w, v))
    go false u true v g rec = more (f x) (rec g)
    go false u false v g rec = rec g

-- a series of eight attempts with a rise each has a loss or a fault
has-some : (rises : List Rises) → length rises ≡ 8 → list_all has_risen rises ≡ true → losses_in rises ≡ 0
    → faults_in rises ≡ 0 → ⊥
has-some [] e r l f = omega (arith, e)
has-some (x ∷ xs) e r l f =
    let a = sum_by-cons (λ (r : Rises). r.losses) x xs in
    let b = sum_by-cons (λ (r : Rises). r.faults) x xs in
    let c : x.losses ≡ 0 = omega (arith, a, l) in
    let d : x.faults ≡ 0 = omega (arith, b, f) in
    let risen = (and_parts (has_risen x) _ r).0 in
    let no : not ((0 == 0) && (x.faults == 0)) ≡ true =
    subst (λ (n : ℕ). not ((n == 0) && (x.faults == 0)) ≡ true) c risen in
    let none : not ((0 == 0) && (0 == 0)) ≡ true = subst (λ (n : ℕ). not ((0 == 0) && (n == 0)) ≡ true) d no in
    cc none

no-losses : (fates : List FateLine) → has_none fates ≡ true → (n : ℕ) → losing_attempts fates n ≡ 0
no-losses [] h n = refl
no-losses (f ∷ fs) h n = absurd (cc h)

module _ (script : Script) (counted : ℕ → Counted) (e : Ended) (there : SeriesAreThere script counted e)
    (quiet : NoneRose counted) (fates : has_none script.fates ≡ true) where
  -- there is no series at all
  pub no-series : (failure : Failure) (disk : ℕ) (x : Series) → series_of failure disk e.series ≡ x ∷ [] → ⊥
  no-series failure disk x is =
      has-some x.rises each.0.eight each.0.each (omega (arith, lost, few, none)) (no-faults faults.0)
    where
      p : Series → Bool
      p = λ s. is_failure s.failure failure && (s.disk == disk)

      each : IsSeries x × ((is_failure x.failure failure && (x.disk == disk)) ≡ true)
      each = one-of IsSeries (λ s. is_failure s.failure failure && (s.disk == disk)) e.series x [] there.fit.each is

      faults : IsBounded (faults_on x.disk e.series) (counted x.disk)
          × ((is_failure x.failure failure && (x.disk == disk)) ≡ true)
      faults =
          one-of (λ s. IsBounded (faults_on s.disk e.series) (counted s.disk))
          (λ s. is_failure s.failure failure && (s.disk == disk)) e.series x [] there.fit.faults is

      losses : (losses_on x.disk e.series ≤ losing_attempts script.fates x.disk)
          × ((is_failure x.failure failure && (x.disk == disk)) ≡ true)
      losses =
          one-of (λ s. losses_on s.disk e.series ≤ losing_attempts script.fates s.disk)
          (λ s. is_failure s.failure failure && (s.disk == disk)) e.series x [] there.fit.losses is

      q : IsQuiet (counted x.disk)
      q = quiet x.disk each.0.disk

      here : x.disk ≡ disk
      here = eqb-true x.disk disk (and_parts (is_failure x.failure failure) _ each.1).1

      weaker : (s : Series) → (is_failure s.failure failure && (s.disk == disk)) ≡ true → (s.disk == x.disk) ≡ true
      weaker s h =
          eq-eqb s.disk x.disk (eqb-true s.disk disk (and_parts (is_failure s.failure failure) _ h).1 ∙ sym here)

      none : losing_attempts script.fates x.disk ≡ 0
      none = no-losses script.fates fates x.disk

      lost : losses_in x.rises ≤ losses_on x.disk e.series
      lost =
          part-of (λ s. losses_in s.rises) (λ s. is_failure s.failure failure && (s.disk == disk))
          (λ s. s.disk == x.disk) weaker e.series x [] is

      few : losses_on x.disk e.series ≤ losing_attempts script.fates x.disk
      few = losses.0

      failed : faults_in x.rises ≤ faults_on x.disk e.series
      failed =
          part-of (λ s. faults_in s.rises) (λ s. is_failure s.failure failure && (s.disk == disk))
          (λ s. s.disk == x.disk) weaker e.series x [] is

      no-faults : IsBounded (faults_on x.disk e.series) (counted x.disk) → faults_in x.rises ≡ 0
      no-faults (inl top) = absurd (let b = q.below in omega (arith, top, b))
      no-faults (inr low) = let same = q.same in omega (arith, low, same, failed)

  -- nothing is open
  pub none-open : has_none e.unfinished ≡ true
  none-open = go e.unfinished there.unfinished
    where
      one : (u : Unfinished) → UnfinishedHasSeries (is_unformatted e) e.series u → ⊥
      one u h = of (series_of (failure_of (is_unformatted e) u.disk) u.disk e.series) refl h
        where
          of : (xs : List Series) → series_of (failure_of (is_unformatted e) u.disk) u.disk e.series ≡ xs
              → OneSeries xs (λ s. HasSums s u.losses u.faults) → ⊥
          of [] is h = h
          of (x ∷ []) is h = no-series (failure_of (is_unformatted e) u.disk) u.disk x is
          of (x ∷ y ∷ xs) is h = h

      go : (us : List Unfinished) → AllByRecursion (UnfinishedHasSeries (is_unformatted e) e.series) us
          → has_none us ≡ true
      go [] h = refl
      go (u ∷ us) h = absurd (one u h.0)

  -- so the campaign has a result
  pub has-result : (is_some (result_of e.list) || not (has_none e.unfinished)) ≡ true
      → is_some (result_of e.list) ≡ true
  has-result h =
      go (is_some (result_of e.list)) (subst (λ (b : Bool). (is_some (result_of e.list) || not b) ≡ true) none-open h)
    where
      go : (b : Bool) → (b || false) ≡ true → b ≡ true
      go true h = refl
      go false h = h
