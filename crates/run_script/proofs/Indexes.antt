-- One range more is taken, and one line more takes it.
use Rattle.std.proofs.Common.{◌≡◌, ◌∙◌, ℕ, Bool, true, false, cond, List, [], ◌∷◌, ◌++◌, map, refl, sym, ap}
use Rattle.std.specs.Prelude.{◌||◌, filter}
use Rattle.disk_core.specs.declared.plan.FailKind.{FailKind}
use Rattle.disk_mem.specs.Strikes.{same_kind}
use Rattle.range_set.specs.Ranges.{is_met, meets, track_range}
use Rattle.run_script.specs.declared.lines.FaultLine.{FaultLine}
use Rattle.run_script.specs.Taken.{HasMore, IsMetAlike, Ranges, faults_of}

-- a range is met besides some others
abbrev pub IsMetWith : Ranges → Ranges → ℕ → ℕ → ℕ → Type 0
IsMetWith more es track first last =
    (t a b : ℕ) → is_met more t a b ≡ (meets t a b (track_range track first last) || is_met es t a b)

pub alike : (old new es more : Ranges) (track first last : ℕ) → HasMore old new track first last → IsMetAlike old es
    → IsMetWith more es track first last → IsMetAlike new more
alike old new es more track first last has same with t a b =
    has t a b ∙ ap (λ m. meets t a b (track_range track first last) || m) (same t a b) ∙ sym (with t a b)

swapped : (x y z : Bool) → (x || (y || z)) ≡ (y || (x || z))
swapped true true z = refl
swapped true false z = refl
swapped false true z = refl
swapped false false z = refl

abbrev Entry : Type 0
Entry = (ℕ × ℕ) × ℕ

-- a line more, of which each takes one range
pub pushed : {A : Type 0} (f : A → Entry) (xs : List A) (x : A) (t a b : ℕ)
    → is_met (map f (xs ++ x ∷ [])) t a b ≡ (meets t a b (f x) || is_met (map f xs) t a b)
pushed f [] x t a b = refl
pushed f (y ∷ ys) x t a b =
    ap (λ m. meets t a b (f y) || m) (pushed f ys x t a b) ∙ swapped (meets t a b (f y)) (meets t a b (f x)) _

-- the range of a line
abbrev calls : FaultLine → Entry
calls f = track_range f.disk f.first f.last

listed : (y : FaultLine) (ys zs : List FaultLine) (x : FaultLine) (t a b : ℕ) (same : Bool)
    → is_met (map calls ys) t a b ≡ (meets t a b (calls x) || is_met (map calls zs) t a b)
    → is_met (map calls (cond same (y ∷ ys) ys)) t a b
    ≡ (meets t a b (calls x) || is_met (map calls (cond same (y ∷ zs) zs)) t a b)
listed y ys zs x t a b true e =
    ap (λ m. meets t a b (calls y) || m) e ∙ swapped (meets t a b (calls y)) (meets t a b (calls x)) _
listed y ys zs x t a b false e = e

-- a line more of calls of this kind
pub fault-pushed : (kind : FailKind) (xs : List FaultLine) (x : FaultLine) → same_kind x.kind kind ≡ true
    → IsMetWith (faults_of kind (xs ++ x ∷ [])) (faults_of kind xs) x.disk x.first x.last
fault-pushed kind [] x e t a b = rw e refl
fault-pushed kind (y ∷ ys) x e t a b =
    listed y (filter (λ f. same_kind f.kind kind) (ys ++ x ∷ [])) (filter (λ f. same_kind f.kind kind) ys) x t a b
    (same_kind y.kind kind) (fault-pushed kind ys x e t a b)

-- a line more of calls of another kind
pub fault-other : (kind : FailKind) (xs : List FaultLine) (x : FaultLine) → same_kind x.kind kind ≡ false
    → faults_of kind xs ≡ faults_of kind (xs ++ x ∷ [])
fault-other kind xs x e = ap (map calls) (kept xs)
  where
    kept : (xs : List FaultLine)
        → filter (λ f. same_kind f.kind kind) xs ≡ filter (λ f. same_kind f.kind kind) (xs ++ x ∷ [])
    kept [] = rw e refl
    kept (y ∷ ys) = ap (λ zs. cond (same_kind y.kind kind) (y ∷ zs) zs) (kept ys)
