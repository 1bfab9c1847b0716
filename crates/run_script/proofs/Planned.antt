-- The plan that is made says of each call what the lines say.
use Rattle.std.proofs.Common.{◌≡◌, ◌∙◌, ◌+◌, ◌-◌, ◌++◌, ℕ, zero, suc, Bool, true, false, List, [], ◌∷◌, None, map, refl, sym, ap, append_assoc, arith}
use Rattle.std.specs.Prelude.{◌&&◌, ◌||◌, ◌==◌, nat_le, nat_lt}
use Rattle.std.specs.List.{flat_map, range_with_len}
use Rattle.std.proofs.lemmas.Bool.Decides.{nat_tests}
use Rattle.std.proofs.lemmas.List.Folds.{list_any-append}
use Rattle.std.proofs.lemmas.List.Concat.{flat_map-cons}
use Rattle.std.proofs.lemmas.List.FromFn.{map-range_with_len_more}
use Rattle.disk_core.specs.declared.plan.FailKind.{FailKind}
use Rattle.disk_core.specs.declared.plan.FailKind.TheVariants.{Read, Write, Sync}
use Rattle.disk_core.specs.declared.plan.FaultPlan.{FaultPlan}
use Rattle.disk_mem.specs.Strikes.{fate_by, is_listed, same_kind, stop_of}
use Rattle.run_script.specs.declared.lines.FaultLine.{FaultLine}
use Rattle.run_script.specs.declared.lines.Lines.{Lines}
use Rattle.run_script.specs.declared.lines.StopLine.{StopLine}
use Rattle.run_script.specs.Plans.{IsPlanOf, fails_by, has_call, is_failing, stop_given, stops_by}

-- with one call more, behind what was listed before
pub call_more : (kind : FailKind) (first k : ℕ) (old now more : List (FailKind × ℕ))
    → now ≡ old ++ map {B = FailKind × ℕ} (λ call. (kind, call)) (range_with_len first k)
    → more ≡ now ++ (kind, first + k) ∷ []
    → more ≡ old ++ map {B = FailKind × ℕ} (λ call. (kind, call)) (range_with_len first (k + 1))
call_more kind first k old now more so pushed =
    let listed : List (FailKind × ℕ) = map {B = FailKind × ℕ} (λ call. (kind, call)) (range_with_len first k) in
    let last : List (FailKind × ℕ) = (kind, first + k) ∷ [] in
    pushed
    ∙ ap (λ xs. xs ++ last) so
    ∙ append_assoc old listed last
    ∙ ap (λ xs. old ++ xs)
    (sym (map-range_with_len_more {X = FailKind × ℕ} (λ call. (kind, call)) first k (first + k) refl))

stops-said : (disk write : ℕ) (lines : List StopLine)
    → stop_of (flat_map (stops_by disk) lines) write ≡ stop_given lines disk write
stops-said disk write [] = refl
stops-said disk write (s ∷ ss) =
    ap (λ xs. stop_of xs write) (flat_map-cons (stops_by disk) s ss)
    ∙ at (s.disk == disk) refl (s.write == write) refl (stops-said disk write ss)
  where
    at : (here : Bool) → (s.disk == disk) ≡ here → (now : Bool) → (s.write == write) ≡ now
        → stop_of (flat_map (stops_by disk) ss) write ≡ stop_given ss disk write
        → stop_of (stops_by disk s ++ flat_map (stops_by disk) ss) write ≡ stop_given (s ∷ ss) disk write
    at true e true f more = rw (e, f) refl
    at true e false f more = rw (e, f) more
    at false e now f more = rw e more

none : (b : Bool) (a call : ℕ) → false ≡ (b && (nat_le a call && nat_lt call (a + 0)))
none true a call = grind (arith, nat_tests)
none false a call = refl

one-more : (b : Bool) (a call n : ℕ)
    → ((b && (a == call)) || (b && (nat_le (a + 1) call && nat_lt call (a + 1 + n))))
    ≡ (b && (nat_le a call && nat_lt call (a + suc n)))
one-more true a call n = grind (arith, nat_tests)
one-more false a call n = refl

-- so many calls from one on
within : (kind own : FailKind) (call a n : ℕ)
    → is_listed (map {B = FailKind × ℕ} (λ k. (own, k)) (range_with_len a n)) kind call
    ≡ (same_kind own kind && (nat_le a call && nat_lt call (a + n)))
within kind own call a zero = none (same_kind own kind) a call
within kind own call a (suc n) =
    ap (λ x. (same_kind own kind && (a == call)) || x) (within kind own call (a + 1) n)
    ∙ one-more (same_kind own kind) a call n

to-last : (first last call : ℕ)
    → (nat_le first call && nat_lt call (first + (last + 1 - first))) ≡ (nat_le first call && nat_le call last)
to-last first last call = grind (arith, nat_tests)

line-said : (disk : ℕ) (kind : FailKind) (call : ℕ) (f : FaultLine)
    → is_listed (fails_by disk f) kind call ≡ has_call disk kind call f
line-said disk kind call f = at (f.disk == disk) refl
  where
    at : (here : Bool) → (f.disk == disk) ≡ here → is_listed (fails_by disk f) kind call ≡ has_call disk kind call f
    at true e =
        rw e (within kind f.kind call f.first (f.last + 1 - f.first)
        ∙ ap (λ x. same_kind f.kind kind && x) (to-last f.first f.last call))
    at false e = rw e refl

fails-said : (disk : ℕ) (kind : FailKind) (call : ℕ) (lines : List FaultLine)
    → is_listed (flat_map (fails_by disk) lines) kind call ≡ is_failing lines disk kind call
fails-said disk kind call [] = refl
fails-said disk kind call (f ∷ fs) =
    ap (λ xs. is_listed xs kind call) (flat_map-cons (fails_by disk) f fs)
    ∙ list_any-append (λ (fail : FailKind × ℕ). same_kind fail.0 kind && (fail.1 == call)) (fails_by disk f)
    (flat_map (fails_by disk) fs)
    ∙ ap (λ x. x || is_listed (flat_map (fails_by disk) fs) kind call) (line-said disk kind call f)
    ∙ ap (λ x. has_call disk kind call f || x) (fails-said disk kind call fs)

pub is_plan : (lines : Lines) (disk : ℕ) (plan : FaultPlan) → plan.stops ≡ flat_map (stops_by disk) lines.stops
    → plan.fails ≡ flat_map (fails_by disk) lines.faults → IsPlanOf lines disk plan
is_plan lines disk plan stops fails = said
  where
    failing : (kind : FailKind) (call : ℕ) → is_listed plan.fails kind call ≡ is_failing lines.faults disk kind call
    failing kind call = ap (λ fs. is_listed fs kind call) fails ∙ fails-said disk kind call lines.faults

    said : IsPlanOf lines disk plan
    said Read call = ap (fate_by None) (failing Read call)
    said Write call =
        ap (λ o. fate_by o (is_listed plan.fails Write call))
        (ap (λ xs. stop_of xs call) stops ∙ stops-said disk call lines.stops)
        ∙ ap (fate_by (stop_given lines.stops disk call)) (failing Write call)
    said Sync call = ap (fate_by None) (failing Sync call)
