-- What a search over the parts of all nodes finds.
use Rattle.std.proofs.Common.{◌≡◌, refl, ap, sym, ◌∙◌, ℕ, ◌+◌, ◌<◌, suc, get_or, Bool, true, false, List, [], ◌∷◌, length, arith}
use Rattle.std.specs.Prelude.{not, ◌&&◌, ◌||◌, cond, if◌then◌else◌, nat_le, Option, Some, None, IfSome, option_map, map}
use Rattle.std.specs.List.{list_all, zip, position_from}
use Rattle.std.proofs.lemmas.Bool.Decides.{nat_tests}
use Rattle.campaign_core.specs.Nodes.{all_flagged}

-- the test of each pair of a flag and a part is that of each flagged part
pub all-flagged : {A : Type 0} (test : A → Bool) (flags : List Bool) (parts : List A) → length flags ≡ length parts
    → list_all (λ p. not p.0 || test p.1) (zip flags parts) ≡ all_flagged test flags parts
all-flagged test [] [] e = refl
all-flagged test [] (x ∷ xs) e = refl
all-flagged test (f ∷ fs) [] e = absurd (omega arith)
all-flagged test (false ∷ fs) (x ∷ xs) e = all-flagged test fs xs (omega arith)
all-flagged test (true ∷ fs) (x ∷ xs) e = ap (λ b. test x && b) (all-flagged test fs xs (omega arith))

-- places that count from one more are one more
pub position-from : {A : Type 0} (test : A → Bool) (n : ℕ) (xs : List A)
    → position_from test (n + 1) xs ≡ option_map (λ i. i + 1) (position_from test n xs)
position-from test n [] = refl
position-from test n (x ∷ xs) = go (test x) _ _ (position-from test (n + 1) xs)
  where
    go : (b : Bool) (o q : Option ℕ) → q ≡ option_map (λ i. i + 1) o
        → cond b (Some (n + 1)) q ≡ option_map (λ i. i + 1) (cond b (Some n) o)
    go true o q e = refl
    go false o q e = e

position-below : {A : Type 0} (test : A → Bool) (n : ℕ) (xs : List A)
    → IfSome (position_from test n xs) (λ i. i < n + length xs)
position-below test n [] = tt
position-below test n (x ∷ xs) = go (test x) (position_from test (n + 1) xs) (position-below test (n + 1) xs)
  where
    go : (b : Bool) (o : Option ℕ) → IfSome o (λ i. i < n + 1 + length xs)
        → IfSome (cond b (Some n) o) (λ i. i < n + length (x ∷ xs))
    go true o h = omega arith
    go false None h = tt
    go false (Some i) h = omega (arith, h)

-- the place that is found among eight, counted from 0, is that of a node, counted from 1
pub node-found : {A : Type 0} (test : A → Bool) (xs : List A) (i : ℕ) → length xs ≡ 8 → position_from test 0 xs ≡ Some i
    → (if nat_le 1 (i + 1) && nat_le (i + 1) 8 then Some (i + 1) else None) ≡ position_from test 1 xs
node-found test xs i long e =
    let below : i < 8 = omega (arith, rw e at (position-below test 0 xs)) in
    let low : nat_le 1 (i + 1) ≡ true = grind (arith, nat_tests) in
    let high : nat_le (i + 1) 8 ≡ true = grind (arith, nat_tests) in
    rw (low, high) (sym (position-from test 0 xs ∙ ap (option_map (λ i. i + 1)) e))

-- a list that agrees with a function of another at each place
pub mapped : {A B : Type 0} (f : A → B) (xs : List A) (ys : List B) (a : A) (b : B) → length ys ≡ length xs
    → ((k : ℕ) → k < length xs → get_or ys k b ≡ f (get_or xs k a)) → ys ≡ map f xs
mapped f [] [] a b e h = refl
mapped f [] (y ∷ ys) a b e h = absurd (omega arith)
mapped f (x ∷ xs) [] a b e h = absurd (omega arith)
mapped f (x ∷ xs) (y ∷ ys) a b e h =
    let head : y ≡ f x = h 0 (omega arith) in
    rw head (ap (λ zs. f x ∷ zs) (mapped f xs ys a b (omega arith) (λ k lt. h (suc k) (omega (arith, lt)))))
