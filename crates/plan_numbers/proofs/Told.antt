-- The numbers of names and of a plan of faults tell them.
use Rattle.std.proofs.Common.{◌≡◌, ℕ, List, [], ◌∷◌, refl, sym, ◌∙◌, ap}
use Rattle.std.specs.Prelude.{slice_index_or}
use Rattle.disk_core.specs.declared.plan.FailKind.{FailKind}
use Rattle.disk_core.specs.declared.plan.FaultPlan.{FaultPlan}
use Rattle.turn_gate.proofs.InOne.{in_one-injective}
use Rattle.plan_numbers.specs.Plans.{fail_numbers, fixed_numbers, kind_number, stop_numbers}

abbrev kind_at : ℕ → FailKind
kind_at n = slice_index_or (FailKind.Read ∷ FailKind.Write ∷ FailKind.Sync ∷ []) n FailKind.Read

kind_of_its_number : (k : FailKind) → kind_at (kind_number k) ≡ k
kind_of_its_number FailKind.Read = refl
kind_of_its_number FailKind.Write = refl
kind_of_its_number FailKind.Sync = refl

kinds : (a b : FailKind) → kind_number a ≡ kind_number b → a ≡ b
kinds a b same = sym (kind_of_its_number a) ∙ ap kind_at same ∙ kind_of_its_number b

stops : (xs ys : List (ℕ × ℕ)) → stop_numbers xs ≡ stop_numbers ys → xs ≡ ys
stops [] [] same = refl
stops [] (y ∷ ys) same = absurd (cc same)
stops (x ∷ xs) (y ∷ ys) same =
    let write : x.0 ≡ y.0 = cc same in
    let kept : x.1 ≡ y.1 = cc same in
    let tail : stop_numbers xs ≡ stop_numbers ys = cc same in
    let head : x ≡ y = (λ i. (write i, kept i)) in
    let rest = stops xs ys tail in
    cc (head, rest)
stops (x ∷ xs) [] same = absurd (cc same)

fails : (xs ys : List (FailKind × ℕ)) → fail_numbers xs ≡ fail_numbers ys → xs ≡ ys
fails [] [] same = refl
fails [] (y ∷ ys) same = absurd (cc same)
fails (x ∷ xs) (y ∷ ys) same =
    let number : kind_number x.0 ≡ kind_number y.0 = cc same in
    let call : x.1 ≡ y.1 = cc same in
    let tail : fail_numbers xs ≡ fail_numbers ys = cc same in
    let kind = kinds x.0 y.0 number in
    let head : x ≡ y = (λ i. (kind i, call i)) in
    let rest = fails xs ys tail in
    cc (head, rest)
fails (x ∷ xs) [] same = absurd (cc same)

pub told : (ms ns : List (List ℕ)) (p q : FaultPlan) → fixed_numbers ms p ≡ fixed_numbers ns q → (ms ≡ ns) × (p ≡ q)
told ms ns p q same =
    let lists = in_one-injective (stop_numbers p.stops ∷ fail_numbers p.fails ∷ ms)
    (stop_numbers q.stops ∷ fail_numbers q.fails ∷ ns) same in
    let first : stop_numbers p.stops ≡ stop_numbers q.stops = cc lists in
    let second : fail_numbers p.fails ≡ fail_numbers q.fails = cc lists in
    let names : ms ≡ ns = cc lists in
    let s = stops p.stops q.stops first in
    let f = fails p.fails q.fails second in
    (names, λ i. record { stops = s i; fails = f i })
