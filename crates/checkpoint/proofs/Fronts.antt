-- What a head reads as depends on its bytes before the journal alone.
use Rattle.std.proofs.Common.{◌≡◌, ◌⊎◌, inl, inr, ℕ, ◌+◌, ◌-◌, ◌<◌, ◌≤◌, cond, eqb, leb, List, take, drop, get_or, Option, Some, None, sym, ◌∙◌, ap, subst, arith}
use Rattle.std.proofs.lemmas.List.{get_or-take, take-take, drop-take}
use Rattle.std.proofs.lemmas.Bool.{cases_Bool, cond-true, cond-false, leb-true}
use Rattle.std.specs.Int.{from_be_bytes, w32, w64}
use Rattle.disk_core.specs.Bytes.{Torn}
use Rattle.disk_area.specs.Windows.{window}
use Rattle.disk_area.proofs.Windows.{window_apart}
use Rattle.checkpoint.specs.Halves.{Body, layout_of, begins, other, read_of, half_of, head_area, journal_area}
use Rattle.checkpoint.specs.declared.layout.Layout.{Layout}
use Rattle.checkpoint.proofs.Places.{sound, paired, same_layout}

-- equal fronts have equal parts
part_same : (n j k : ℕ) (a b : List ℕ) → j + k ≤ n → take n a ≡ take n b → take k (drop j a) ≡ take k (drop j b)
part_same n j k a b le same = part a ∙ ap (λ (xs : List ℕ). drop j (take (j + k) xs)) same ∙ sym (part b)
  where
    part : (xs : List ℕ) → take k (drop j xs) ≡ drop j (take (j + k) (take n xs))
    part xs = sym (drop-take j k xs) ∙ ap (λ (ys : List ℕ). drop j ys) (sym (take-take (j + k) n xs le))

abbrev len : List ℕ → ℕ
len bytes = from_be_bytes w32 (take 4 (drop 8 bytes))

abbrev gen : List ℕ → ℕ
gen bytes = from_be_bytes w64 (take 8 bytes)

abbrev shape : ℕ → ℕ → ℕ → List ℕ → Option Body
shape lim g n bytes = cond (leb n lim) (Some (record { generation = g; state = take n (drop 12 bytes) })) None

abbrev body_at : ℕ → List ℕ → Option Body
body_at lim bytes = shape lim (gen bytes) (len bytes) bytes

body_same : (m lim : ℕ) (a b : List ℕ) → 12 + lim ≤ m → take m a ≡ take m b → body_at lim a ≡ body_at lim b
body_same m lim a b fits same = (λ i. shape lim (gen_is i) (len_is i) a) ∙ rest
  where
    len_is : len a ≡ len b
    len_is = ap (λ xs. from_be_bytes w32 xs) (part_same m 8 4 a b (omega (arith, fits)) same)

    gen_is : gen a ≡ gen b
    gen_is = ap (λ xs. from_be_bytes w64 xs) (part_same m 0 8 a b (omega (arith, fits)) same)

    rest : shape lim (gen b) (len b) a ≡ body_at lim b
    rest = elim (cases_Bool (leb (len b) lim)) [
      | inl below ↦
          cond-true (leb (len b) lim) _ _ below
          ∙ ap (λ (xs : List ℕ). Some (record { generation = gen b; state = xs }))
          (part_same m 12 (len b) a b (omega (arith, fits, leb-true (len b) lim below)) same)
          ∙ sym (cond-true (leb (len b) lim) _ _ below)
      | inr above ↦ cond-false (leb (len b) lim) _ _ above ∙ sym (cond-false (leb (len b) lim) _ _ above)
    ]

abbrev read_at : ℕ → List ℕ → Option Body
read_at lim head = cond (eqb (get_or head 0 0) 1) (body_at lim (drop 1 head)) None

read_same : (m lim : ℕ) (a b : List ℕ) → 12 + lim ≤ m → take (1 + m) a ≡ take (1 + m) b → read_at lim a ≡ read_at lim b
read_same m lim a b fits same = (λ i. cond (eqb (gate i) 1) (body i) None)
  where
    gate : get_or a 0 0 ≡ get_or b 0 0
    gate = sym (get_or-take (1 + m) a 0 0 (omega arith)) ∙ ap (λ (xs : List ℕ). get_or xs 0 0) same
        ∙ get_or-take (1 + m) b 0 0 (omega arith)

    body : body_at lim (drop 1 a) ≡ body_at lim (drop 1 b)
    body = body_same m lim (drop 1 a) (drop 1 b) fits (part_same (1 + m) 1 m a b (omega arith) same)

pub half_same : (half : ℕ) (x y : List ℕ)
    → take (layout_of half).journal_at (window (head_area half) y) ≡ take (layout_of half).journal_at
    (window (head_area half) x) → half_of half y ≡ half_of half x
half_same half x y same =
    let place : (layout_of half).journal_at ≡ 1 + ((layout_of half).journal_at - 1) =
    omega (arith, (sound half).fits) in
    read_same ((layout_of half).journal_at - 1) (layout_of half).state_max (window (head_area half) y)
    (window (head_area half) x) (omega (arith, (sound half).fits))
    (subst (λ (k : ℕ). take k (window (head_area half) y) ≡ take k (window (head_area half) x)) place same)

-- whatever stands in the journal of a half, both halves of the pair read as before
module _ (half : ℕ) (x y : List ℕ) (lt : half < 4)
    (torn : Torn (journal_area half).at (journal_area half).len x y) where
  pub journal_mine : half_of half y ≡ half_of half x
  journal_mine = half_same half x y (fronts y ∙ ap (λ (xs : List ℕ). drop (begins half) xs) torn.before
      ∙ sym (fronts x))
    where
      fronts : (xs : List ℕ) → take (layout_of half).journal_at (window (head_area half) xs) ≡ drop (begins half)
          (take (begins half + (layout_of half).journal_at) xs)
      fronts xs = take-take (layout_of half).journal_at ((layout_of half).journal_at + 1) (drop (begins half) xs)
          (omega arith) ∙ sym (drop-take (begins half) (layout_of half).journal_at xs)

  pub journal_beside : half_of (other half) y ≡ half_of (other half) x
  journal_beside =
      let pair = paired half lt in
      ap (λ (xs : List ℕ). read_of (layout_of (other half)).state_max xs)
      (window_apart (journal_area half) (head_area (other half)) x y
      (apart pair.apart (ap (λ (l : Layout). l.journal_at) (same_layout half)) (sound half).some) torn)
    where
      apart : (begins (other half) + (layout_of half).journal_at + (layout_of half).journal_len ≤ begins half) ⊎
          (begins half + (layout_of half).journal_at + (layout_of half).journal_len ≤ begins (other half))
          → (layout_of (other half)).journal_at ≡ (layout_of half).journal_at → 0 < (layout_of half).journal_len
          → (begins (other half) + ((layout_of (other half)).journal_at + 1) ≤ begins half +
          (layout_of half).journal_at) ⊎ (begins half + (layout_of half).journal_at +
          (layout_of half).journal_len ≤ begins (other half))
      apart (inl before) at some = inl (omega (arith, before, at, some))
      apart (inr behind) at some = inr behind

-- a head that changes leaves the other half
module _ (half : ℕ) (x y : List ℕ) (lt : half < 4) (torn : Torn (head_area half).at (head_area half).len x y) where
  pub head_beside : half_of (other half) y ≡ half_of (other half) x
  head_beside =
      let pair = paired half lt in
      ap (λ (xs : List ℕ). read_of (layout_of (other half)).state_max xs)
      (window_apart (head_area half) (head_area (other half)) x y
      (apart pair.apart (ap (λ (l : Layout). l.journal_at) (same_layout half)) (sound half).some) torn)
    where
      apart : (begins (other half) + (layout_of half).journal_at + (layout_of half).journal_len ≤ begins half) ⊎
          (begins half + (layout_of half).journal_at + (layout_of half).journal_len ≤ begins (other half))
          → (layout_of (other half)).journal_at ≡ (layout_of half).journal_at → 0 < (layout_of half).journal_len
          → (begins (other half) + ((layout_of (other half)).journal_at + 1) ≤ begins half) ⊎
          (begins half + ((layout_of half).journal_at + 1) ≤ begins (other half))
      apart (inl before) at some = inl (omega (arith, before, at, some))
      apart (inr behind) at some = inr (omega (arith, behind, some))

  pub journal_kept : window (journal_area (other half)) y ≡ window (journal_area (other half)) x
  journal_kept =
      let pair = paired half lt in
      window_apart (head_area half) (journal_area (other half)) x y
      (apart pair.apart (ap (λ (l : Layout). l.journal_at) (same_layout half))
      (ap (λ (l : Layout). l.journal_len) (same_layout half)) (sound half).some) torn
    where
      apart : (begins (other half) + (layout_of half).journal_at + (layout_of half).journal_len ≤ begins half) ⊎
          (begins half + (layout_of half).journal_at + (layout_of half).journal_len ≤ begins (other half))
          → (layout_of (other half)).journal_at ≡ (layout_of half).journal_at
          → (layout_of (other half)).journal_len ≡ (layout_of half).journal_len → 0 < (layout_of half).journal_len
          → (begins (other half) + (layout_of (other half)).journal_at +
          (layout_of (other half)).journal_len ≤ begins half) ⊎ (begins half +
          ((layout_of half).journal_at + 1) ≤ begins (other half) + (layout_of (other half)).journal_at)
      apart (inl before) at len some = inl (omega (arith, before, at, len))
      apart (inr behind) at len some = inr (omega (arith, behind, some))
