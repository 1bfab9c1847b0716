-- What a driver missed in a row is in the counts of its subordinate.
use Rattle.std.proofs.Common.{◌≡◌, ℕ, ◌+◌, ◌≤◌, Bool, true, false, if◌then◌else◌, List, [], ◌∷◌, ◌++◌, min, sum_by, Option, Some, None, sym, subst, arith}
use Rattle.std.proofs.lemmas.List.Sums.{sum_by-cons}
use Rattle.std.specs.List.{AllByRecursion}
use Rattle.ucm_base.specs.declared.ids.CallNo.{CallNo}
use Rattle.pm_types.specs.declared.calls.Call.{Call}
use Rattle.pm_types.specs.declared.replies.Reply.{Reply}
use Rattle.sub_core.specs.declared.answers.Got.{Got}
use Rattle.sub_core.specs.declared.answers.Rises.{Rises}
use Rattle.sub_core.specs.declared.answers.SendStep.{SendStep}
use Rattle.sub_core.specs.declared.answers.Todo.{Todo}
use Rattle.sub_core.specs.declared.subordinate.Sent.{Sent}
use Rattle.sub_core.specs.declared.subordinate.UnitSent.{UnitSent}
use Rattle.sub_core.specs.Driving.{after_send, after_todo, after_unit, is_answer, opened, replied, todo, unanswered_at}
use Rattle.sub_core.specs.Failures.{faults_in, last_count, losses_in}
use Rattle.sub_core.specs.Given.{Begun, Gave, GaveNothing, Given, since}
use Rattle.sub_core.specs.States.{DriverState}
use Rattle.sub_core.specs.Subordinates.{Counted, HasRisenBy, IsCounted, IsCountedUnit, IsNoFewer}
use Rattle.sub_workers.specs.Attempts.{IsTried, got_of, got_unit}
use Rattle.sub_workers.specs.Runs.{AreCounted, Goes}

risen_both : (a b x y z last : ℕ) → min (x + a) last ≤ y → min (y + b) last ≤ z → min (x + (a + b)) last ≤ z
risen_both a b x y z last one two = omega (arith, one, two)

risen_more : (a x y z last : ℕ) → min (x + a) last ≤ y → y ≤ z → min (x + a) last ≤ z
risen_more a x y z last one two = omega (arith, one, two)

risen_none : (x y last : ℕ) → x ≤ y → min (x + 0) last ≤ y
risen_none x y last fewer = omega (arith, fewer)

sum_more : (f : Rises → ℕ) (ms : List Rises) (r : Rises) → sum_by f (ms ++ r ∷ []) ≡ sum_by f ms + f r
sum_more f [] r = omega (arith, sum_by-cons f r [])
sum_more f (m ∷ ms) r = omega (arith, sum_by-cons f m (ms ++ r ∷ []), sum_by-cons f m ms, sum_more f ms r)

each_more : (ms : List Rises) (r : Rises) → AllByRecursion (λ r. 1 ≤ r.losses + r.faults) ms → 1 ≤ r.losses + r.faults
    → AllByRecursion (λ r. 1 ≤ r.losses + r.faults) (ms ++ r ∷ [])
each_more [] r each one = (one, tt)
each_more (m ∷ ms) r each one = (each.0, each_more ms r each.1 one)

-- no more misses, or none
counted_on : (ms : List Rises) (s m t : Counted) → AreCounted ms s m → IsNoFewer m t → AreCounted ms s t
counted_on ms s m t so_far counts = record {
  each = so_far.each;
  counts = (omega (arith, so_far.counts.0, counts.0), omega (arith, so_far.counts.1, counts.1));
  losses = risen_more (losses_in ms) s.losses m.losses t.losses last_count so_far.losses counts.0;
  faults = risen_more (faults_in ms) s.faults m.faults t.faults last_count so_far.faults counts.1;
}

counted_none : (s t : Counted) → IsNoFewer s t → AreCounted [] s t
counted_none s t counts = record {
  each = tt;
  counts = counts;
  losses = risen_none s.losses t.losses last_count counts.0;
  faults = risen_none s.faults t.faults last_count counts.1;
}

-- one miss more
counted_miss : (ms : List Rises) (s m t : Counted) (losses faults : ℕ) → AreCounted ms s m → IsNoFewer m t
    → 1 ≤ losses + faults → HasRisenBy losses m.losses t.losses → HasRisenBy faults m.faults t.faults
    → AreCounted (ms ++ record { losses = losses; faults = faults } ∷ []) s t
counted_miss ms s m t losses faults so_far counts some by_losses by_faults =
    let r : Rises = record { losses = losses; faults = faults } in
    record {
      each = each_more ms r so_far.each some;
      counts = (omega (arith, so_far.counts.0, counts.0), omega (arith, so_far.counts.1, counts.1));
      losses = subst (λ n. HasRisenBy n s.losses t.losses) (sym (sum_more (λ r. r.losses) ms r))
          (risen_both (losses_in ms) losses s.losses m.losses t.losses last_count so_far.losses by_losses);
      faults = subst (λ n. HasRisenBy n s.faults t.faults) (sym (sum_more (λ r. r.faults) ms r))
          (risen_both (faults_in ms) faults s.faults m.faults t.faults last_count so_far.faults by_faults);
    }

module _ (d : DriverState) (s m t : Counted) (so_far : AreCounted d.misses s m) (counts : IsNoFewer m t) where
  counted_reply : (b : Bool) (reply : Reply) → AreCounted (if b then replied reply d else opened d).misses s t
  counted_reply true reply =
      counted_none s t (omega (arith, so_far.counts.0, counts.0), omega (arith, so_far.counts.1, counts.1))
  counted_reply false reply = counted_on d.misses s m t so_far counts

  counted_sent : (asked : SendStep) (answer : Sent) (got : Got) → got_of answer ≡ Some got → IsCounted answer m t
      → AreCounted (after_send asked got d).misses s t
  counted_sent asked (Sent.Answered reply) got is rises =
      let same : Got.Replied reply ≡ got = cc is in
      subst (λ g. AreCounted (after_send asked g d).misses s t) same (counted_reply (is_answer asked reply) reply)
  counted_sent asked (Sent.Lost faults) got is rises =
      let same : Got.Miss 1 faults ≡ got = cc is in
      subst (λ g. AreCounted (after_send asked g d).misses s t) same
      (counted_miss d.misses s m t 1 faults so_far counts (omega arith) (omega (arith, rises.0)) rises.1)
  counted_sent asked (Sent.NoReply faults) got is rises =
      let same : Got.Miss 0 faults ≡ got = cc is in
      subst (λ g. AreCounted (after_send asked g d).misses s t) same
      (counted_miss d.misses s m t 0 faults so_far counts (omega (arith, rises.0))
      (risen_none m.losses t.losses last_count counts.0) rises.2)
  counted_sent asked Sent.OutOfMemory got is rises = absurd (cc is)

  counted_unit : (answer : UnitSent) (got : Got) → got_unit answer ≡ Some got → IsCountedUnit answer m t
      → AreCounted (after_unit got d).misses s t
  counted_unit (UnitSent.Worked unit) got is rises =
      let same : Got.UnitOf unit ≡ got = cc is in
      subst (λ g. AreCounted (after_unit g d).misses s t) same
      (counted_none s t (omega (arith, so_far.counts.0, counts.0), omega (arith, so_far.counts.1, counts.1)))
  counted_unit (UnitSent.NoReply faults) got is rises =
      let same : Got.Miss 0 faults ≡ got = cc is in
      subst (λ g. AreCounted (after_unit g d).misses s t) same
      (counted_miss d.misses s m t 0 faults so_far counts (omega (arith, rises.0))
      (risen_none m.losses t.losses last_count counts.0) rises.2)
  counted_unit UnitSent.OutOfMemory got is rises = absurd (cc is)

  counted_vain : (asked : Todo) → AreCounted (unanswered_at asked d).misses s t
  counted_vain (Todo.Send call_no step) = counted_on d.misses s m t so_far counts
  counted_vain Todo.Unit = counted_on d.misses s m t so_far counts
  counted_vain (Todo.Rest finding) = counted_on d.misses s m t so_far counts

module _ {U : Type 0} (last : U → Option CallNo) (counted : U → Counted)
    (sends : U → CallNo → Call → Sent → U → Type 0) (works : U → UnitSent → U → Type 0) where
  counted_got : (packages : List (List ℕ)) (d : DriverState) (asked : Todo) (got : Got) (s m t : U)
      → AreCounted d.misses (counted s) (counted m) → IsTried last counted sends works packages asked (Some got) m t
      → AreCounted (after_todo asked got d).misses (counted s) (counted t)
  counted_got packages d (Todo.Send call_no step) got s m t so_far tried =
      counted_sent d (counted s) (counted m) (counted t) so_far tried.counts step tried.answer got tried.is tried.rises
  counted_got packages d Todo.Unit got s m t so_far tried =
      counted_unit d (counted s) (counted m) (counted t) so_far tried.counts tried.answer got tried.is tried.rises
  counted_got packages d (Todo.Rest finding) got s m t so_far tried = absurd tried

  tried_counts : (packages : List (List ℕ)) (asked : Todo) (got : Option Got) (m t : U)
      → IsTried last counted sends works packages asked got m t → IsNoFewer (counted m) (counted t)
  tried_counts packages (Todo.Send call_no step) got m t tried = tried.counts
  tried_counts packages Todo.Unit got m t tried = tried.counts
  tried_counts packages (Todo.Rest finding) got m t tried = absurd tried

  -- from a driver without misses on
  pub counted_along : (packages : List (List ℕ)) (start : DriverState) → start.misses ≡ [] → (gs : List Given) (s t : U)
      → Goes last counted sends works packages start gs s t → AreCounted (since start gs).misses (counted s) (counted t)
  counted_along packages start clean [] s t goes =
      subst (λ ms. AreCounted ms (counted s) (counted t)) (sym clean)
      (subst (λ u. AreCounted [] (counted s) (counted u)) (sym goes)
      (counted_none (counted s) (counted s) (omega arith, omega arith)))
  counted_along packages start clean (Begun round ∷ gs) s t goes = absurd goes.2
  counted_along packages start clean (Gave got ∷ gs) s t goes =
      let d = since start gs in
      let m = goes.0 in
      subst (λ b. AreCounted (if b then after_todo (todo d) got d else d).misses (counted s) (counted t))
      (sym goes.2.0.number)
      (counted_got packages d (todo d) got s m t (counted_along packages start clean gs s m goes.1) goes.2.1)
  counted_along packages start clean (GaveNothing ∷ gs) s t goes =
      let d = since start gs in
      let m = goes.0 in
      subst (λ b. AreCounted (if b then unanswered_at (todo d) d else d).misses (counted s) (counted t))
      (sym goes.2.0.number)
      (counted_vain d (counted s) (counted m) (counted t) (counted_along packages start clean gs s m goes.1)
      (tried_counts packages (todo d) None m t goes.2.1) (todo d))
