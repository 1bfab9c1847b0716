-- What the pages of a disk show, cell by cell: of a leaf its pages, of the table its leaves.
use Rattle.std.proofs.Common.{◌≡◌, ℕ, zero, suc, ◌+◌, ◌*◌, ◌-◌, ◌<◌, ◌≤◌, Bool, true, false, map, is_some, List, [], ◌∷◌, ◌++◌, length, take, drop, set, get_or, replicate, Option, Some, None, refl, sym, ◌∙◌, ap, arith, mul-zero, mul-suc, add_comm, append_assoc, length-append, length-drop}
use Rattle.std.proofs.lemmas.List.{length-replicate, take-append-le, drop-append-le, length-take-le, take-replicate, drop-replicate, replicate-append-replicate, append-nil}
use Rattle.std.specs.List.{slice_range}
use Rattle.disk_core.specs.Bytes.{put_at}
use Rattle.disk_core.proofs.Pieces.{put_front, put_back, put_take, put_none, take_past, drop_past, range_take}
use Rattle.disk_mem.specs.declared.page.Page.{Page}
use Rattle.disk_mem.specs.declared.leaf.Leaf.{Leaf}
use Rattle.disk_mem.specs.Pages.{content, page_bytes, blank_bytes, leaf_bytes, shown}

-- where cell k begins, of cells of n bytes
abbrev pub place : ℕ → ℕ → ℕ
place n zero = 0
place n (suc k) = n + place n k

place_is : (n k : ℕ) → place n k ≡ n * k
place_is n zero = sym (mul-zero n)
place_is n (suc k) = ap (λ (m : ℕ). n + m) (place_is n k) ∙ add_comm n (n * k) ∙ sym (mul-suc n k)

pub place_page : (k : ℕ) → place 4096 k ≡ 4096 * k
place_page k = place_is 4096 k

pub place_leaf : (k : ℕ) → place 2097152 k ≡ 2097152 * k
place_leaf k = place_is 2097152 k

-- cells of n bytes each
module _ {A : Type 0} (bytes : A → List ℕ) (n : ℕ) (long : (a : A) → length (bytes a) ≡ n) where
  pub length-content : (cells : List A) → length (content bytes cells) ≡ place n (length cells)
  length-content [] = refl
  length-content (cell ∷ cells) = omega (
    arith,
    length-append (bytes cell) (content bytes cells),
    long cell,
    length-content cells,
  )

  pub reaches : (cells : List A) (k : ℕ) → k < length cells → place n k + n ≤ length (content bytes cells)
  reaches [] k lt = absurd (omega (arith, lt))
  reaches (cell ∷ cells) zero lt = omega (arith, length-append (bytes cell) (content bytes cells), long cell)
  reaches (cell ∷ cells) (suc k) lt = omega (
    arith,
    length-append (bytes cell) (content bytes cells),
    long cell,
    reaches cells k (omega (arith, lt)),
  )

  -- a range within cell k
  pub cell_range : (cells : List A) (k : ℕ) (cell : A) (from to i j : ℕ) → k < length cells
      → cell ≡ get_or cells k cell → from ≤ to → to ≤ n
      → i ≡ place n k + from → j ≡ place n k + to
      → slice_range (bytes cell) from to ≡ slice_range (content bytes cells) i j
  cell_range [] k cell from to i j lt is le fits i_is j_is = absurd (omega (arith, lt))
  cell_range (c ∷ cells) zero cell from to i j lt is le fits i_is j_is =
      let all = long c in
      let rest : List ℕ = content bytes cells in
      ap (λ (q : A). slice_range (bytes q) from to) is
      ∙ sym (take-append-le (to - from) (drop from (bytes c)) rest
      (omega (arith, all, length-drop from (bytes c), fits)))
      ∙ ap (λ (xs : List ℕ). take (to - from) xs) (sym (drop-append-le from (bytes c) rest
      (omega (arith, all, le, fits))))
      ∙ (λ t. take (same_length t) (drop (same_place t) (bytes c ++ rest)))
    where
      same_length : to - from ≡ j - i
      same_length = omega (arith, i_is, j_is)

      same_place : from ≡ i
      same_place = omega (arith, i_is)
  cell_range (c ∷ cells) (suc k) cell from to i j lt is le fits i_is j_is =
      let all = long c in
      cell_range cells k cell from to (i - n) (j - n) (omega (arith, lt)) is le fits (omega (arith, i_is))
      (omega (arith, j_is))
      ∙ ap (λ (m : ℕ). take m (drop (i - n) (content bytes cells))) same_length
      ∙ ap (λ (xs : List ℕ). take (j - i) xs) (sym (drop_past (bytes c) (content bytes cells) i (i - n)
      (omega (arith, all, i_is))))
    where
      same_length : j - n - (i - n) ≡ j - i
      same_length = omega (arith, i_is, j_is)

  -- a piece put into cell k
  pub cell_put : (cells : List A) (k : ℕ) (cell next : A) (from at : ℕ) (piece : List ℕ)
      → k < length cells → cell ≡ get_or cells k cell → from + length piece ≤ n
      → bytes next ≡ put_at (bytes cell) from piece → at ≡ place n k + from
      → content bytes (set cells k next) ≡ put_at (content bytes cells) at piece
  cell_put [] k cell next from at piece lt is fits put at_is = absurd (omega (arith, lt))
  cell_put (c ∷ cells) zero cell next from at piece lt is fits put at_is =
      ap (λ (xs : List ℕ). xs ++ content bytes cells) (put ∙ ap (λ (q : A). put_at (bytes q) from piece) is)
      ∙ sym (put_front (bytes c) (content bytes cells) from piece (omega (arith, long c, fits)))
      ∙ ap (λ (m : ℕ). put_at (bytes c ++ content bytes cells) m piece) here
    where
      here : from ≡ at
      here = omega (arith, at_is)
  cell_put (c ∷ cells) (suc k) cell next from at piece lt is fits put at_is =
      ap (λ (xs : List ℕ). bytes c ++ xs) (cell_put cells k cell next from (at - n) piece
      (omega (arith, lt)) is fits put (omega (arith, at_is)))
      ∙ sym (put_back (bytes c) (content bytes cells) at (at - n) piece (omega (arith, long c, at_is)))

  -- a cell with the same bytes in place of cell k
  pub cell_same : (cells : List A) (k : ℕ) (cell next : A) → k < length cells → cell ≡ get_or cells k cell
      → bytes next ≡ bytes cell → content bytes (set cells k next) ≡ content bytes cells
  cell_same cells k cell next lt is same =
      cell_put cells k cell next 0 (place n k + 0) [] lt is (omega arith)
      (same ∙ sym (put_none (bytes cell) 0)) refl
      ∙ put_none (content bytes cells) (place n k + 0)

-- the zeros of a leaf, and how many they are
pub record Blank : Type 0 where
  pub size : ℕ
  pub zeros : blank_bytes ≡ replicate size 0
  pub big : size ≡ 2097152

pub blank : Blank
unfolding blank_bytes
blank = record { size = 2097152; zeros = refl; big = refl }

pub length-page_bytes : (page : Option Page) → length (page_bytes page) ≡ 4096
length-page_bytes None = length-replicate {A = ℕ} 4096 0
length-page_bytes (Some page) = omega (arith, page.full, page.bytes.ok.0)

pub length-leaf_bytes : (leaf : Option Leaf) → length (leaf_bytes leaf) ≡ 2097152
length-leaf_bytes None = ap length blank.zeros ∙ length-replicate {A = ℕ} blank.size 0 ∙ blank.big
length-leaf_bytes (Some leaf) = omega (
  arith,
  length-content page_bytes 4096 length-page_bytes leaf.pages.items,
  place_page (length leaf.pages.items),
  leaf.full,
  leaf.pages.ok.0,
)

-- a range of zeros
pub zero_range : (n from to : ℕ) → from ≤ to → to ≤ n
    → replicate {A = ℕ} (to - from) 0 ≡ slice_range (replicate {A = ℕ} n 0) from to
zero_range n from to le fits =
    sym (ap (λ (xs : List ℕ). take (to - from) xs) (drop-replicate from n 0)
    ∙ take-replicate (to - from) (n - from) 0 (omega (arith, le, fits)))

-- a range of a leaf without a page
pub blank_range : (from to : ℕ) → from ≤ to → to ≤ 2097152 → replicate (to - from) 0 ≡ slice_range blank_bytes from to
blank_range from to le fits =
    zero_range blank.size from to le (omega (arith, fits, blank.big))
    ∙ ap (λ (xs : List ℕ). slice_range xs from to) (sym blank.zeros)

-- cells that aren't made hold zeros
pub unmade_pages : (n : ℕ) → content page_bytes (replicate n None) ≡ replicate (4096 * n) 0
unmade_pages zero = refl
unmade_pages (suc n) =
    let more : 4096 + 4096 * n ≡ 4096 * suc n = omega arith in
    ap (λ (xs : List ℕ). replicate 4096 0 ++ xs) (unmade_pages n) ∙ replicate-append-replicate 4096 (4096 * n) 0
    ∙ ap (λ (k : ℕ). replicate k 0) more

-- a leaf without a page holds zeros
pub blank_leaf : (n : ℕ) (pages : List (Option Page)) → pages ≡ replicate n None → 4096 * n ≡ 2097152
    → content page_bytes pages ≡ blank_bytes
blank_leaf n pages is long =
    let same : 4096 * n ≡ blank.size = omega (arith, long, blank.big) in
    ap (λ (ps : List (Option Page)). content page_bytes ps) is ∙ unmade_pages n
    ∙ ap (λ (k : ℕ). replicate k 0) same ∙ sym blank.zeros

pub unmade_leaves : (n : ℕ) → content leaf_bytes (replicate n None) ≡ replicate (place blank.size n) 0
unmade_leaves zero = refl
unmade_leaves (suc n) =
    (λ i. blank.zeros i ++ unmade_leaves n i)
    ∙ replicate-append-replicate blank.size (place blank.size n) 0

content-append : (xs ys : List (Option Leaf)) → content leaf_bytes (xs ++ ys)
    ≡ content leaf_bytes xs ++ content leaf_bytes ys
content-append [] ys = refl
content-append (x ∷ xs) ys = ap (λ (zs : List ℕ). leaf_bytes x ++ zs) (content-append xs ys)
    ∙ sym (append_assoc (leaf_bytes x) (content leaf_bytes xs) (content leaf_bytes ys))

module _ (size : ℕ) (leaves : List (Option Leaf)) where
  abbrev bytes : List ℕ
  bytes = content leaf_bytes leaves

  long_enough : size ≤ length (bytes ++ replicate size 0)
  long_enough = omega (arith, length-append bytes (replicate size 0), length-replicate {A = ℕ} size 0)

  pub length-shown : length (shown size leaves) ≡ size
  length-shown = length-take-le size (bytes ++ replicate size 0) long_enough

  -- a range in leaf k
  pub shown_range : (k : ℕ) (leaf : Option Leaf) (from to : ℕ)
      → k < length leaves → leaf ≡ get_or leaves k leaf → from ≤ to → to ≤ 2097152
      → 2097152 * k + to ≤ size → slice_range (leaf_bytes leaf) from to
      ≡ slice_range (shown size leaves) (2097152 * k + from) (2097152 * k + to)
  shown_range k leaf from to lt is le fits within =
      let i : ℕ = 2097152 * k + from in
      let j : ℕ = 2097152 * k + to in
      let whole = reaches leaf_bytes 2097152 length-leaf_bytes leaves k lt in
      let i_is : i ≡ place 2097152 k + from = omega (arith, place_leaf k) in
      let j_is : j ≡ place 2097152 k + to = omega (arith, place_leaf k) in
      cell_range leaf_bytes 2097152 length-leaf_bytes leaves k leaf from to i j lt is le fits i_is j_is
      ∙ sym (take-append-le (j - i) (drop i bytes) (replicate size 0)
      (omega (arith, length-drop i bytes, whole, place_leaf k, fits, le)))
      ∙ ap (λ (xs : List ℕ). take (j - i) xs) (sym (drop-append-le i bytes (replicate size 0)
      (omega (arith, whole, place_leaf k, fits, le))))
      ∙ sym (range_take (bytes ++ replicate size 0) size i j (omega (arith, le)) within)

  -- a range behind the leaves
  pub shown_behind : (i j : ℕ) → 2097152 * length leaves ≤ i → i ≤ j → j ≤ size
      → replicate (j - i) 0 ≡ slice_range (shown size leaves) i j
  shown_behind i j behind le within =
      let all : length bytes ≡ 2097152 * length leaves =
      length-content leaf_bytes 2097152 length-leaf_bytes leaves ∙ place_leaf (length leaves) in
      let past : i ≡ length bytes + (i - length bytes) = omega (arith, all, behind) in
      sym (range_take (bytes ++ replicate size 0) size i j le within
      ∙ ap (λ (xs : List ℕ). take (j - i) xs) (drop_past bytes (replicate size 0) i (i - length bytes) past
      ∙ drop-replicate (i - length bytes) size 0)
      ∙ take-replicate (j - i) (size - (i - length bytes)) 0 (omega (arith, le, within)))

  -- a piece put into leaf k
  pub shown_put : (k : ℕ) (leaf next : Option Leaf) (from : ℕ) (piece : List ℕ)
      → k < length leaves → leaf ≡ get_or leaves k leaf
      → from + length piece ≤ 2097152 → leaf_bytes next ≡ put_at (leaf_bytes leaf) from piece
      → 2097152 * k + from + length piece ≤ size
      → shown size (set leaves k next) ≡ put_at (shown size leaves) (2097152 * k + from) piece
  shown_put k leaf next from piece lt is fits put within =
      let at : ℕ = 2097152 * k + from in
      let whole = reaches leaf_bytes 2097152 length-leaf_bytes leaves k lt in
      let at_is : at ≡ place 2097152 k + from = omega (arith, place_leaf k) in
      ap (λ (xs : List ℕ). take size (xs ++ replicate size 0))
      (cell_put leaf_bytes 2097152 length-leaf_bytes leaves k leaf next from at piece lt is fits put at_is)
      ∙ ap (λ (xs : List ℕ). take size xs) (sym (put_front bytes (replicate size 0) at piece
      (omega (arith, whole, place_leaf k, fits))))
      ∙ put_take (bytes ++ replicate size 0) size at piece (omega (arith, within)) long_enough

  -- a leaf that is made without a page
  pub shown_made : (k : ℕ) (leaf next : Option Leaf) → k < length leaves → leaf ≡ get_or leaves k leaf
      → leaf_bytes next ≡ leaf_bytes leaf → shown size (set leaves k next) ≡ shown size leaves
  shown_made k leaf next lt is same =
      ap (λ (xs : List ℕ). take size (xs ++ replicate size 0))
      (cell_same leaf_bytes 2097152 length-leaf_bytes leaves k leaf next lt is same)

  -- places that the table has more
  pub shown_longer : (n : ℕ) → shown size (leaves ++ replicate n None) ≡ shown size leaves
  shown_longer n =
      let z : List ℕ = replicate size 0 in
      let m : ℕ = place blank.size n in
      let swapped : m + size ≡ size + m = add_comm m size in
      ap (λ (xs : List ℕ). take size (xs ++ z)) (content-append leaves (replicate n None)
      ∙ ap (λ (xs : List ℕ). bytes ++ xs) (unmade_leaves n))
      ∙ ap (λ (xs : List ℕ). take size xs) (append_assoc bytes (replicate m 0) z
      ∙ ap (λ (xs : List ℕ). bytes ++ xs) (replicate-append-replicate m size 0
      ∙ ap (λ (k : ℕ). replicate k 0) swapped ∙ sym (replicate-append-replicate size m 0))
      ∙ sym (append_assoc bytes z (replicate m 0)))
      ∙ take-append-le size (bytes ++ z) (replicate m 0) long_enough

-- a disk without a table shows zeros
pub shown_unmade : (size : ℕ) → shown size [] ≡ replicate size 0
shown_unmade size = take-replicate size size 0 (omega arith)

-- which leaves are made, where leaf k is made
pub made_there : (leaves : List (Option Leaf)) (k : ℕ) (leaf : Leaf) → k < length leaves
    → get_or (map is_some (set leaves k (Some leaf))) k false ≡ true
made_there [] k leaf lt = absurd (omega (arith, lt))
made_there (l ∷ leaves) zero leaf lt = refl
made_there (l ∷ leaves) (suc k) leaf lt = made_there leaves k leaf (omega (arith, lt))

pub made_still : (leaves : List (Option Leaf)) (k j : ℕ) (leaf : Leaf)
    → get_or (map is_some leaves) j false ≡ true → get_or (map is_some (set leaves k (Some leaf))) j false ≡ true
made_still [] k j leaf was = was
made_still (l ∷ leaves) zero zero leaf was = refl
made_still (l ∷ leaves) zero (suc j) leaf was = was
made_still (l ∷ leaves) (suc k) zero leaf was = was
made_still (l ∷ leaves) (suc k) (suc j) leaf was = made_still leaves k j leaf was

-- a leaf that is made stands in the table
pub made_is : (leaves : List (Option Leaf)) (k : ℕ) → get_or (map is_some leaves) k false ≡ true → k < length leaves
made_is [] k was = cc
made_is (l ∷ leaves) zero was = omega arith
made_is (l ∷ leaves) (suc k) was = omega (arith, made_is leaves k was)

pub made_some : (leaves : List (Option Leaf)) (k : ℕ) (slot : Option Leaf) → slot ≡ get_or leaves k slot
    → get_or (map is_some leaves) k false ≡ true → is_some slot ≡ true
made_some [] k slot is was = cc
made_some (l ∷ leaves) zero slot is was = ap (λ (s : Option Leaf). is_some s) is ∙ was
made_some (l ∷ leaves) (suc k) slot is was = made_some leaves k slot is was
