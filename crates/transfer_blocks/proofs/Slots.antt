-- Where fewer slots are taken than there are, one is free.
use Rattle.std.proofs.Common.{◌≡◌, ◌≢◌, ◌⊎◌, inl, inr, ⊎_elim, refl, sym, ap, subst, ◌∙◌, ℕ, zero, suc, ◌+◌, ◌-◌, ◌<◌, ◌≤◌, ◌==◌, ◌&&◌, Bool, true, false, not, cond, List, [], ◌∷◌, length, filter, Option, Some, None, arith}
use Rattle.std.specs.Prelude.{find, unwrap_or}
use Rattle.std.specs.List.{range_with_len}
use Rattle.std.proofs.lemmas.Bool.{cases_eq, eqb-true, ne_eqb}
use Rattle.transfer_blocks.specs.Table.{is_free, lowest_free}

-- one step of a search, and how it ends
pub scan-next : (test : ℕ → Bool) (i n : ℕ) → i < n → test i ≡ false
    → find test (range_with_len i (n - i)) ≡ find test (range_with_len (i + 1) (n - (i + 1)))
scan-next test i n lt fails =
    let more : n - i ≡ suc (n - (i + 1)) = omega (arith, lt) in
    ap (λ m. find test (range_with_len i m)) more
    ∙ ap (λ b. cond b (Some i) (find test (range_with_len (i + 1) (n - (i + 1))))) fails

pub scan-here : (test : ℕ → Bool) (i n : ℕ) → i < n → test i ≡ true → find test (range_with_len i (n - i)) ≡ Some i
scan-here test i n lt passes =
    let more : n - i ≡ suc (n - (i + 1)) = omega (arith, lt) in
    ap (λ m. find test (range_with_len i m)) more
    ∙ ap (λ b. cond b (Some i) (find test (range_with_len (i + 1) (n - (i + 1))))) passes

pub scan-end : (test : ℕ → Bool) (i n : ℕ) → n ≤ i → find test (range_with_len i (n - i)) ≡ None
scan-end test i n le =
    let none : n - i ≡ 0 = omega (arith, le) in
    ap (λ m. find test (range_with_len i m)) none

-- the slots without one
others : ℕ → List ℕ → List ℕ
others k xs = filter (λ x. not (x == k)) xs

no_more : (k : ℕ) (xs : List ℕ) → length (others k xs) ≤ length xs
unfolding others
no_more k [] = omega arith
no_more k (x ∷ xs) = by-test (x == k) (no_more k xs)
  where
    by-test : (b : Bool) → length (filter (λ y. not (y == k)) xs) ≤ length xs
        → length (cond (not b) (x ∷ filter (λ y. not (y == k)) xs) (filter (λ y. not (y == k)) xs)) ≤ length (x ∷ xs)
    by-test true le = omega (arith, le)
    by-test false le = omega (arith, le)

-- there are fewer without one that is taken
fewer : (k : ℕ) (xs : List ℕ) → is_free xs k ≡ false → length (others k xs) < length xs
unfolding others
fewer k [] taken = absurd (cc taken)
fewer k (x ∷ xs) taken = by-test (x == k) taken (no_more k xs) (fewer k xs)
  where
    by-test : (b : Bool) → (not b && is_free xs k) ≡ false → length (filter (λ y. not (y == k)) xs) ≤ length xs
        → (is_free xs k ≡ false → length (filter (λ y. not (y == k)) xs) < length xs)
        → length (cond (not b) (x ∷ filter (λ y. not (y == k)) xs) (filter (λ y. not (y == k)) xs)) < length (x ∷ xs)
    by-test true taken le rest = omega (arith, le)
    by-test false taken le rest = omega (arith, rest taken)

-- and another one that is taken still is
still : (k j : ℕ) (xs : List ℕ) → j ≢ k → is_free xs j ≡ false → is_free (others k xs) j ≡ false
unfolding others
still k j [] differ taken = absurd (cc taken)
still k j (x ∷ xs) differ taken = by-test (x == k) refl taken (still k j xs differ)
  where
    by-test : (b : Bool) → (x == k) ≡ b → (not (x == j) && is_free xs j) ≡ false
        → (is_free xs j ≡ false → is_free (filter (λ y. not (y == k)) xs) j ≡ false)
        → is_free (cond (not b) (x ∷ filter (λ y. not (y == k)) xs) (filter (λ y. not (y == k)) xs)) j ≡ false
    by-test true is taken rest =
        let no : (x == j) ≡ false = ne_eqb x j (λ e. differ (sym e ∙ eqb-true x k is)) in
        rest (sym (ap (λ b. not b && is_free xs j) no) ∙ taken)
    by-test false is taken rest = first (x == j) taken
      where
        first : (b : Bool) → (not b && is_free xs j) ≡ false
            → (not b && is_free (filter (λ y. not (y == k)) xs) j) ≡ false
        first true taken = refl
        first false taken = rest taken

-- where each of n slots is taken there are at least n
pub pigeons : (n : ℕ) (xs : List ℕ) → ((k : ℕ) → k < n → is_free xs k ≡ false) → n ≤ length xs
pigeons zero xs taken = omega arith
pigeons (suc n) xs taken =
    omega (
      arith,
      fewer n xs (taken n (omega arith)),
      pigeons n (others n xs) (λ k lt. still n k xs (omega (arith, lt)) (taken k (omega (arith, lt)))),
    )

-- a search finds one that passes, or none passes
found_or_none : (test : ℕ → Bool) (a n : ℕ)
    → ((k : ℕ) × (find test (range_with_len a n) ≡ Some k) × (test k ≡ true) × (k < a + n)) ⊎ ((k : ℕ) → a ≤ k
    → k < a + n → test k ≡ false)
found_or_none test a zero = inr (λ k le lt. absurd (omega (arith, le, lt)))
found_or_none test a (suc n) = by-test (test a) refl (found_or_none test (a + 1) n)
  where
    by-test : (b : Bool) → test a ≡ b
        → ((k : ℕ) × (find test (range_with_len (a + 1) n) ≡ Some k) × (test k ≡ true) × (k < a + 1 + n)) ⊎ ((k : ℕ)
        → a + 1 ≤ k → k < a + 1 + n → test k ≡ false)
        → ((k : ℕ) × (cond b (Some a) (find test (range_with_len (a + 1) n)) ≡ Some k) × (test k ≡ true)
        × (k < a + suc n)) ⊎ ((k : ℕ) → a ≤ k → k < a + suc n → test k ≡ false)
    by-test true is rest = inl (a, refl, is, omega arith)
    by-test false is (inl found) = inl (found.0, found.1, found.2, omega (arith, found.3))
    by-test false is (inr none) =
        inr (λ k le lt. ⊎_elim (λ e. ap test e ∙ is) (λ n. none k (omega (arith, le, n)) (omega (arith, lt)))
        (cases_eq k a))

-- of n slots, where fewer are taken, the lowest free one is free and is one of them
pub lowest-is_free : (n : ℕ) (slots : List ℕ) → length slots < n
    → (is_free slots (lowest_free n slots) ≡ true) × (lowest_free n slots < n)
lowest-is_free n slots few =
    ⊎_elim
    (λ found. subst (λ (o : Option ℕ). (is_free slots (unwrap_or o 0) ≡ true)
    × (unwrap_or o 0 < n)) (sym found.1) (found.2, omega (arith, found.3)))
    (λ none. absurd (omega (arith, few, pigeons n slots (λ k lt. none k (omega arith) (omega (arith, lt))))))
    (found_or_none (is_free slots) 0 n)
