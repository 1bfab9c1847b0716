-- The bytes that pages hold, by a table of two levels.
use Rattle.std.specs.Prelude.{◌≡◌, ℕ, ◌+◌, ◌/◌, Bool, true, false, List, [], ◌∷◌, ◌++◌, map, Option, Some, None, is_some, take, replicate, slice_index_or}
use Rattle.disk_mem.specs.declared.page.Page.{Page}
use Rattle.disk_mem.specs.declared.leaf.Leaf.{Leaf}

-- what a disk of pages shows: its bytes, how many pages and leaves it has in stock, and which leaves are made
pub record Paged : Type 0 where
  pub bytes : List ℕ
  pub spare : ℕ
  pub leaves : ℕ
  pub made : List Bool

-- the bytes of these cells, one after another
abbrev pub content : {A : Type 0} → (A → List ℕ) → List A → List ℕ
content bytes [] = []
content bytes (cell ∷ cells) = bytes cell ++ content bytes cells

-- a page that isn't made reads as zeros
abbrev pub page_bytes : Option Page → List ℕ
page_bytes None = replicate 4096 0
page_bytes (Some page) = page.bytes.items

-- the zeros of a leaf without a page
unfoldable pub blank_bytes : List ℕ
blank_bytes = replicate 2097152 0

-- a leaf that isn't made reads as zeros
abbrev pub leaf_bytes : Option Leaf → List ℕ
leaf_bytes None = blank_bytes
leaf_bytes (Some leaf) = content page_bytes leaf.pages.items

-- what a disk of this size shows: zeros where the table has no leaf
abbrev pub shown : ℕ → List (Option Leaf) → List ℕ
shown size leaves = take size (content leaf_bytes leaves ++ replicate size 0)

-- which leaves are made
abbrev pub made_of : List (Option Leaf) → List Bool
made_of leaves = map is_some leaves

-- leaf k is made
abbrev pub IsMade : ℕ → Paged → Type 0
IsMade k pages = slice_index_or pages.made k false ≡ true

-- at most so many pages are touched by a write of n bytes
abbrev pub pages_for : ℕ → ℕ
pages_for n = n / 4096 + 2

-- and at most so many leaves
abbrev pub leaves_for : ℕ → ℕ
leaves_for n = n / 2097152 + 2
