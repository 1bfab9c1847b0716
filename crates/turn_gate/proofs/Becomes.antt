-- What a turn may make of what it found: for callers, and for the step that publishes it.
use Rattle.std.proofs.Common.{◌≡◌, inl, inr, ⊎_elim, ℕ, ◌<◌, ◌≤◌, Bool, true, false, cond, List, [], ◌∷◌, ◌++◌, length, refl, sym, ◌∙◌, ap, subst, arith, append_assoc, Option, Some, None}
use Rattle.std.proofs.lemmas.Bool.{cases_Bool, cond-true, cond-false, eqb-true}
use Rattle.std.proofs.lemmas.List.{append-nil}
use mathlib.Core.List.{IsPrefix}
use Rattle.turn_gate.specs.declared.view.Account.{Account}
use Rattle.turn_gate.specs.declared.view.Part.{Part}
use Rattle.turn_gate.specs.Parts.{is_of, own, times, numbers_of, IsOurs, StoodOrNot, AtMostOne, IsPendingAfter, MayBecome, StaysOrStood}

module _ {E : Type 0} (tells : E → Option ℕ) where
  -- a turn may leave all as it was, whatever its device did meanwhile
  pub stays : (parts : List (Part E)) (old new : Account E) → new.entries ≡ old.entries → new.pending ≡ old.pending
      → old.faults ≤ new.faults → MayBecome tells parts old new 0
  stays parts old new entries pending faults = record {
    stood = [];
    more = [];
    list_goes_on = entries ∙ sym (append-nil old.entries) ∙ sym (append-nil (old.entries ++ []));
    stood_was_pending = inl refl;
    at_most_one_more = inl refl;
    pending_is = inr (inl (refl, pending));
    faults_rose = omega (arith, faults);
  }

  pub own-append : (n : ℕ) (xs ys : List E) → own tells n (xs ++ ys) ≡ own tells n xs ++ own tells n ys
  own-append n [] ys = refl
  own-append n (x ∷ xs) ys = go (own-append n xs ys) (is_of (tells x) n)
    where
      go : own tells n (xs ++ ys) ≡ own tells n xs ++ own tells n ys → (b : Bool)
          → cond b (x ∷ own tells n (xs ++ ys)) (own tells n (xs ++ ys))
          ≡ cond b (x ∷ own tells n xs) (own tells n xs) ++ own tells n ys
      go h true = ap (λ (l : List E). x ∷ l) h
      go h false = h

  -- an entry of ours tells no number of another
  not_another : (parts : List (Part E)) (n : ℕ) (e : E) → times n (numbers_of parts) ≡ 0 → IsOurs tells parts e
      → is_of (tells e) n ≡ true → ⊥
  not_another parts n e none (inl untold) told =
      let z : false ≡ true = ap (λ (o : Option ℕ). is_of o n) (sym untold) ∙ told in cc
  not_another parts n e none (inr t) told =
      let same : t.0 ≡ n = eqb-true t.0 n (ap (λ (o : Option ℕ). is_of o n) (sym t.1) ∙ told) in
      let some_there = t.2 in
      let some_here : 0 < times n (numbers_of parts) = subst (λ (k : ℕ). 0 < times k (numbers_of parts))
      same some_there in
      absurd (omega (arith, none, some_here))

  none_more : (parts : List (Part E)) (n : ℕ) (more : List E) → times n (numbers_of parts) ≡ 0
      → AtMostOne tells parts more → own tells n more ≡ []
  none_more parts n more none (inl nothing) = ap (own tells n) nothing
  none_more parts n more none (inr t) =
      ap (own tells n) t.1
      ∙ cond-false {A = List E} (is_of (tells t.0) n) (t.0 ∷ []) []
      (⊎_elim (λ told. absurd (not_another parts n t.0 none t.2 told)) (λ untold. untold)
      (cases_Bool (is_of (tells t.0) n)))

  -- what a turn may do leaves the entries of another number, or adds the one that was pending
  pub others_stay : (parts : List (Part E)) (old new : Account E) (rise : ℕ) → MayBecome tells parts old new rise
      → (n : ℕ) → times n (numbers_of parts) ≡ 0 → StaysOrStood tells old new n
  others_stay parts old new rise may n none = go may.stood_was_pending
    where
      own_is : own tells n new.entries ≡ own tells n old.entries ++ own tells n may.stood
      own_is =
          ap (own tells n) (may.list_goes_on ∙ append_assoc old.entries may.stood may.more)
          ∙ own-append n old.entries (may.stood ++ may.more)
          ∙ ap (λ (l : List E). own tells n old.entries ++ l) (own-append n may.stood may.more
          ∙ ap (λ (l : List E). own tells n may.stood ++ l) (none_more parts n may.more none may.at_most_one_more)
          ∙ append-nil (own tells n may.stood))

      -- where something stood, nothing of another is pending
      later : (e : E) → IsPendingAfter tells parts old.pending may.stood new.pending → new.pending ≡ Some e
          → is_of (tells e) n ≡ true → (may.stood ≡ []) × (old.pending ≡ Some e)
      later e (inl nothing) is told = let z : None ≡ Some e = sym nothing ∙ is in absurd (some_not_none e z)
        where
          some_not_none : (x : E) → None ≡ Some x → ⊥
          some_not_none x z = cc
      later e (inr (inl same)) is told = (same.0, sym same.1 ∙ is)
      later e (inr (inr t)) is told =
          let same : t.0 ≡ e = same_entry t.0 e (sym t.1 ∙ is) in
          absurd (not_another parts n e none (subst (IsOurs tells parts) same t.2) told)
        where
          same_entry : (x y : E) → Some x ≡ Some y → x ≡ y
          same_entry x y z = cc

      stays : own tells n may.stood ≡ [] → StaysOrStood tells old new n
      stays nothing =
          inl (
            own_is ∙ ap (λ (l : List E). own tells n old.entries ++ l) nothing
                ∙ append-nil (own tells n old.entries),
            λ e is told. (later e may.pending_is is told).1,
          )

      not_both : (e : E) → may.stood ≡ e ∷ [] → may.stood ≡ [] → ⊥
      not_both e p q = let z : 1 ≡ 0 = ap length (sym p ∙ q) in omega (arith, z)

      go : StoodOrNot old.pending may.stood → StaysOrStood tells old new n
      go (inl nothing) = stays (ap (own tells n) nothing)
      go (inr t) = ⊎_elim
          (λ told. inr (
            t.0,
            t.1,
            told,
            own_is
                ∙ ap (λ (l : List E). own tells n old.entries ++ l) (ap (own tells n) t.2
                ∙ cond-true {A = List E} (is_of (tells t.0) n) (t.0 ∷ []) [] told),
            λ d is told_d. not_both t.0 t.2 (later d may.pending_is is told_d).0,
          ))
          (λ untold. stays (ap (own tells n) t.2 ∙ cond-false {A = List E} (is_of (tells t.0) n) (t.0 ∷ []) [] untold))
          (cases_Bool (is_of (tells t.0) n))

  -- and the list goes on
  pub goes_on_by : (parts : List (Part E)) (old new : Account E) (rise : ℕ) → MayBecome tells parts old new rise
      → IsPrefix old.entries new.entries
  goes_on_by parts old new rise may =
      (may.stood ++ may.more, sym (append_assoc old.entries may.stood may.more) ∙ sym may.list_goes_on)
