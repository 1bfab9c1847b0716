-- What a piece that is put into bytes leaves.
use Rattle.std.proofs.Common.{◌≡◌, ℕ, zero, suc, ◌+◌, ◌-◌, ◌<◌, ◌≤◌, List, [], ◌∷◌, ◌++◌, length, take, drop, get_or, refl, sym, ◌∙◌, ap, arith, append_assoc, length-append, length-drop, take-append-drop}
use Rattle.std.proofs.lemmas.List.{take_at, drop_at, take-append-le, drop-append-le, drop-drop, take-take, drop-take, append-nil, length-take-le, get_or_append_left, get_or-append_right, get_or-take, get_or-drop}
use Rattle.std.proofs.lemmas.List.Folds.{drop_split}
use Rattle.std.specs.List.{slice_range}
use Rattle.disk_core.specs.Bytes.{put_at, Torn}

pub torn_none : (at n : ℕ) (image : List ℕ) → Torn at n image image
torn_none at n image = record { size = refl; before = refl; after = refl }

module _ (at : ℕ) (piece old : List ℕ) (le : at + length piece ≤ length old) where
  front : length (take at old) ≡ at
  front = length-take-le at old (omega arith)

  pub length-put_at : length (put_at old at piece) ≡ length old
  length-put_at =
      omega (
        arith,
        front,
        length-drop (at + length piece) old,
        length-append (take at old ++ piece)
            (drop (at + length piece) old),
        length-append (take at old) piece,
        le,
      )

  pub put_torn : Torn at (length piece) old (put_at old at piece)
  put_torn = record {
    size = length-put_at;
    before = ap (λ (xs : List ℕ). take at xs) (append_assoc (take at old) piece (drop (at + length piece) old))
        ∙ take_at (take at old) (piece ++ drop (at + length piece) old) at front;
    after = drop_at (take at old ++ piece) (drop (at + length piece) old) (at + length piece)
        (omega (arith, front, length-append (take at old) piece));
  }

  pub put-before : (i : ℕ) → i < at → get_or (put_at old at piece) i 0 ≡ get_or old i 0
  put-before i lt =
      ap (λ (xs : List ℕ). get_or xs i 0) (append_assoc (take at old) piece (drop (at + length piece) old))
      ∙ get_or_append_left (take at old) (piece ++ drop (at + length piece) old) 0 i (omega (arith, front, lt))
      ∙ get_or-take at old i 0 lt

  pub put-after : (i : ℕ) → at + length piece ≤ i → get_or (put_at old at piece) i 0 ≡ get_or old i 0
  put-after i ge =
      get_or-append_right (take at old ++ piece) (drop (at + length piece) old) (at + length piece) i 0
      (omega (arith, front, length-append (take at old) piece)) ge
      ∙ get_or-drop (at + length piece) old (i - (at + length piece)) 0
      ∙ ap (λ (k : ℕ). get_or old k 0) (omega (arith, ge))

  pub put-within : (i : ℕ) → at ≤ i → i < at + length piece → get_or (put_at old at piece) i 0 ≡ get_or piece (i - at) 0
  put-within i ge lt =
      ap (λ (xs : List ℕ). get_or xs i 0) (append_assoc (take at old) piece (drop (at + length piece) old))
      ∙ get_or-append_right (take at old) (piece ++ drop (at + length piece) old) at i 0 front ge
      ∙ get_or_append_left piece (drop (at + length piece) old) 0 (i - at) (omega (arith, ge, lt))

-- a front that reaches past xs, and what is behind it
pub take_past : (xs ys : List ℕ) (n k : ℕ) → n ≡ length xs + k → take n (xs ++ ys) ≡ xs ++ take k ys
take_past [] ys n k is = ap (λ (m : ℕ). take m ys) (omega (arith, is))
take_past (x ∷ xs) ys zero k is = absurd (omega (arith, is))
take_past (x ∷ xs) ys (suc n) k is = ap (λ (zs : List ℕ). x ∷ zs) (take_past xs ys n k (omega (arith, is)))

pub drop_past : (xs ys : List ℕ) (n k : ℕ) → n ≡ length xs + k → drop n (xs ++ ys) ≡ drop k ys
drop_past [] ys n k is = ap (λ (m : ℕ). drop m ys) (omega (arith, is))
drop_past (x ∷ xs) ys zero k is = absurd (omega (arith, is))
drop_past (x ∷ xs) ys (suc n) k is = drop_past xs ys n k (omega (arith, is))

-- a piece within the front part, or within the back part
pub put_front : (xs ys : List ℕ) (at : ℕ) (piece : List ℕ) → at + length piece ≤ length xs
    → put_at (xs ++ ys) at piece ≡ put_at xs at piece ++ ys
put_front xs ys at piece le =
    (λ i. take-append-le at xs ys (omega (arith, le)) i ++ piece ++ drop-append-le (at + length piece) xs ys le i)
    ∙ sym (append_assoc (take at xs ++ piece) (drop (at + length piece) xs) ys)

pub put_back : (xs ys : List ℕ) (n at : ℕ) (piece : List ℕ) → n ≡ length xs + at
    → put_at (xs ++ ys) n piece ≡ xs ++ put_at ys at piece
put_back xs ys n at piece is =
    (λ i. take_past xs ys n at is i ++ piece ++ drop_past xs ys (n + length piece) (at + length piece)
    (omega (arith, is)) i)
    ∙ ap (λ (zs : List ℕ). zs ++ drop (at + length piece) ys) (append_assoc xs (take at ys) piece)
    ∙ append_assoc xs (take at ys ++ piece) (drop (at + length piece) ys)

-- a front of which a piece is put
pub put_take : (xs : List ℕ) (n at : ℕ) (piece : List ℕ) → at + length piece ≤ n → n ≤ length xs
    → take n (put_at xs at piece) ≡ put_at (take n xs) at piece
put_take xs n at piece fits le =
    let long : length (take n xs) ≡ n = length-take-le n xs le in
    ap (λ (zs : List ℕ). take n (put_at zs at piece)) (sym (take-append-drop n xs))
    ∙ ap (λ (zs : List ℕ). take n zs) (put_front (take n xs) (drop n xs) at piece (omega (arith, long, fits)))
    ∙ take_at (put_at (take n xs) at piece) (drop n xs) n
    (length-put_at at piece (take n xs) (omega (arith, long, fits)) ∙ long)

-- nothing is put
pub put_none : (xs : List ℕ) (at : ℕ) → put_at xs at [] ≡ xs
put_none xs at =
    ap (λ (zs : List ℕ). zs ++ drop (at + 0) xs) (append-nil (take at xs))
    ∙ ap (λ (k : ℕ). take at xs ++ drop k xs) (omega arith) ∙ take-append-drop at xs

-- two pieces, one behind the other
pub put_put : (xs : List ℕ) (at n : ℕ) (a b : List ℕ) → n ≡ at + length a → at + length a ≤ length xs
    → put_at (put_at xs at a) n b ≡ put_at xs at (a ++ b)
put_put xs at n a b is le =
    let front : length (take at xs ++ a) ≡ at + length a =
    omega (arith, length-take-le at xs (omega (arith, le)), length-append (take at xs) a) in
    put_back (take at xs ++ a) (drop (at + length a) xs) n 0 b (omega (arith, is, front))
    ∙ ap (λ (zs : List ℕ). (take at xs ++ a) ++ (b ++ zs)) (drop-drop (0 + length b) (at + length a) xs
    ∙ ap (λ (k : ℕ). drop k xs) (omega (arith, length-append a b)))
    ∙ sym (append_assoc (take at xs ++ a) b (drop (at + length (a ++ b)) xs))
    ∙ ap (λ (zs : List ℕ). zs ++ drop (at + length (a ++ b)) xs) (append_assoc (take at xs) a b)

-- a range of a front
pub range_take : (xs : List ℕ) (n i j : ℕ) → i ≤ j → j ≤ n → slice_range (take n xs) i j ≡ slice_range xs i j
range_take xs n i j le fits =
    ap (λ (m : ℕ). take (j - i) (drop i (take m xs))) (omega (arith, le, fits))
    ∙ ap (λ (zs : List ℕ). take (j - i) zs) (drop-take i (n - i) xs)
    ∙ take-take (j - i) (n - i) (drop i xs) (omega (arith, le, fits))

-- two ranges, one behind the other
pub range_range : (xs : List ℕ) (i j k : ℕ) → i ≤ j → j ≤ k → k ≤ length xs
    → slice_range xs i j ++ slice_range xs j k ≡ slice_range xs i k
range_range xs i j k ij jk le =
    let long : length (slice_range xs i j) ≡ j - i =
    length-take-le (j - i) (drop i xs) (omega (arith, length-drop i xs, ij, jk, le)) in
    let whole : drop i xs ≡ slice_range xs i j ++ drop j xs = drop_split xs i j ij in
    sym (ap (λ (zs : List ℕ). take (k - i) zs) whole
    ∙ take_past (slice_range xs i j) (drop j xs) (k - i) (k - j) (omega (arith, long, ij, jk)))

pub length-range : (xs : List ℕ) (i j : ℕ) → j ≤ length xs → length (slice_range xs i j) ≡ j - i
length-range xs i j le = length-take-le (j - i) (drop i xs) (omega (arith, length-drop i xs, le))
