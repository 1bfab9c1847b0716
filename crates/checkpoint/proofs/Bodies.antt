-- Bodies that are written and read.
use Rattle.std.proofs.Common.{◌≡◌, ℕ, ◌+◌, ◌-◌, ◌<◌, ◌≤◌, ◌^◌, cond, eqb, leb, List, ◌++◌, length, take, drop, get_or, replicate, Option, Some, None, refl, sym, ◌∙◌, ap, arith, append_assoc, length-append, take-append-drop, w32, w64}
use Rattle.std.specs.Int.{to_be_bytes, from_be_bytes}
use Rattle.std.specs.List.{slice_range}
use Rattle.std.proofs.lemmas.Bool.{eq-eqb, cond-true, cond-false, le-leb, lt-leb}
use Rattle.std.proofs.lemmas.List.{get_or_read, length-replicate, get_or-take, get_or-drop, get_or-append_right, get_or-replicate, take_at, take-take, drop-take, drop-drop, length-take-le}
use Rattle.std.proofs.lemmas.Nat.{from_be_bytes-to_be_bytes_4, from_be_bytes-to_be_bytes_8}
use Rattle.checkpoint.specs.Halves.{Body, body_of, read_of, padded}

-- a body of n bytes, whose state has at most `most`
module _ (n most generation : ℕ) (state : List ℕ) (fits : 12 + most ≤ n) (few : most < 2 ^ 32)
    (short : length state ≤ most) where
  abbrev body : Body
  body = record { generation = generation; state = state }

  abbrev zeros : List ℕ
  zeros = replicate (n - (12 + length state)) 0

  pub length-padded : length (padded n body) ≡ n
  length-padded = omega (
    arith,
    short,
    fits,
    length-append state zeros,
    length-replicate {A = ℕ}
        (n - (12 + length state)) 0,
  )

  -- in front it is read back
  front_reads : (rest : List ℕ) → generation < 2 ^ 64 → body_of most (padded n body ++ rest) ≡ Some body
  front_reads rest small =
      let number : from_be_bytes w64 (to_be_bytes w64 generation) ≡ generation =
      from_be_bytes-to_be_bytes_8 generation small in
      let long : from_be_bytes w32 (to_be_bytes w32 (length state)) ≡ length state =
      from_be_bytes-to_be_bytes_4 (length state) (omega (arith, short, few)) in
      let front : take (length state) (state ++ zeros ++ rest) ≡ state =
      ap (λ (xs : List ℕ). take (length state) xs) (append_assoc state zeros rest)
      ∙ take_at state (zeros ++ rest) (length state) refl in
      let B : ℕ → ℕ → Option Body =
      λ g n. cond (leb n most) (Some (record { generation = g; state = take n (state ++ zeros ++ rest) })) None in
      let read : body_of most (padded n body ++ rest) ≡ B generation (length state) = (λ i. B (number i) (long i)) in
      read ∙ cond-true (leb (length state) most) _ _ (le-leb (length state) most short)
      ∙ ap (λ (xs : List ℕ). Some (record { generation = generation; state = xs })) front

  pub padded_reads : (bytes : List ℕ) → generation < 2 ^ 64 → take (length (padded n body)) bytes ≡ padded n body
      → body_of most bytes ≡ Some body
  padded_reads bytes small is =
      let m = length (padded n body) in
      ap (λ (xs : List ℕ). body_of most xs) (sym (take-append-drop m bytes)
      ∙ ap (λ (xs : List ℕ). xs ++ drop m bytes) is) ∙ front_reads (drop m bytes) small

  -- its last byte is 0
  pub padded_last : (head : List ℕ) → 12 + most < n → take (length (padded n body)) (drop 1 head) ≡ padded n body
      → get_or head n 0 ≡ 0
  padded_last head more is =
      let front : List ℕ = to_be_bytes w64 generation ++ (to_be_bytes w32 (length state) ++ state) in
      let length_front : length front ≡ 12 + length state = omega arith in
      ap (λ (k : ℕ). get_or head k 0) place
      ∙ sym (get_or-drop 1 head (n - 1) 0)
      ∙ sym (get_or-take (length (padded n body)) (drop 1 head) (n - 1) 0 (omega (arith, length-padded, more)))
      ∙ ap (λ (xs : List ℕ). get_or xs (n - 1) 0) is
      ∙ get_or-append_right front zeros (12 + length state) (n - 1) 0 length_front (omega (arith, short, more))
      ∙ get_or-replicate (n - (12 + length state)) (n - 1 - (12 + length state)) 0 0 (omega (arith, short, more))
    where
      place : n ≡ 1 + (n - 1)
      place = omega (arith, fits)

-- the fields of a head's first thirteen bytes
module _ (head front : List ℕ) (is : front ≡ slice_range head 0 13) where
  pub behind_gate : drop 1 front ≡ take 12 (drop 1 head)
  behind_gate = ap (λ (xs : List ℕ). drop 1 xs) is ∙ drop-take 1 12 head

  pub generation_field : take 8 (drop 1 front) ≡ take 8 (drop 1 head)
  generation_field = ap (λ (xs : List ℕ). take 8 xs) behind_gate ∙ take-take 8 12 (drop 1 head) (omega arith)

  pub length_field : take 4 (drop 8 (drop 1 front)) ≡ take 4 (drop 8 (drop 1 head))
  length_field = ap (λ (xs : List ℕ). take 4 (drop 8 xs)) behind_gate
      ∙ ap (λ (xs : List ℕ). take 4 xs) (drop-take 8 4 (drop 1 head))
      ∙ take-take 4 4 (drop 8 (drop 1 head)) (omega arith)

-- the gate, as it is read
pub gate_of : (head front : List ℕ) (k gate : ℕ) → 0 < k → k ≤ length head → front ≡ take k head
    → gate ≡ get_or front 0 gate → gate ≡ get_or head 0 0
gate_of head front k gate some long is read =
    get_or_read front 0 gate (omega (arith, some, ap length is, length-take-le k head long)) read 0
    ∙ ap (λ (xs : List ℕ). get_or xs 0 0) is ∙ get_or-take k head 0 0 some

pub state_field : (head : List ℕ) (n : ℕ) → slice_range head 13 (13 + n) ≡ take n (drop 12 (drop 1 head))
state_field head n = (λ i. take (same i) (sym (drop-drop 12 1 head) i))
  where
    same : 13 + n - 13 ≡ n
    same = omega arith

-- what a head reads as, by what was read of it
module _ (most : ℕ) (head front : List ℕ) (is : front ≡ slice_range head 0 13) (open_gate : get_or head 0 0 ≡ 1)
    (generation n : ℕ) (generation_is : generation ≡ from_be_bytes w64 (take 8 (drop 1 front)))
    (n_is : n ≡ from_be_bytes w32 (take 4 (drop 8 (drop 1 front)))) where
  reads : read_of most head ≡ cond (leb n most)
      (Some (record { generation = generation; state = take n (drop 12 (drop 1 head)) })) None
  reads =
      cond-true (eqb (get_or head 0 0) 1) (body_of most (drop 1 head)) None (eq-eqb (get_or head 0 0) 1 open_gate)
      ∙ (λ i. cond (leb (len_is i) most) (Some
      (record { generation = gen_is i; state = take (len_is i) (drop 12 (drop 1 head)) })) None)
    where
      len_is : from_be_bytes w32 (take 4 (drop 8 (drop 1 head))) ≡ n
      len_is = sym (n_is ∙ ap (λ xs. from_be_bytes w32 xs) (length_field head front is))

      gen_is : from_be_bytes w64 (take 8 (drop 1 head)) ≡ generation
      gen_is = sym (generation_is ∙ ap (λ xs. from_be_bytes w64 xs) (generation_field head front is))

  pub too_long : most < n → read_of most head ≡ None
  too_long long = reads ∙ cond-false (leb n most) _ _ (lt-leb n most long)

  pub read_body : n ≤ most → (state : List ℕ) → state ≡ slice_range head 13 (13 + n)
      → read_of most head ≡ Some (record { generation = generation; state = state })
  read_body short state state_is =
      reads ∙ cond-true (leb n most) _ _ (le-leb n most short)
      ∙ ap (λ (xs : List ℕ). Some (record { generation = generation; state = xs }))
      (sym (state_is ∙ state_field head n))
