-- A window of a disk, and steps that change nothing outside it.
use Rattle.std.specs.Prelude.{ℕ, ◌+◌, ◌≤◌, List, length, take, drop}
use Rattle.disk_core.specs.Bytes.{Torn}
use Rattle.disk_area.specs.declared.area.Area.{Area}

-- the bytes of the window
abbrev pub window : Area → List ℕ → List ℕ
window area bytes = take area.len (drop area.at bytes)

-- the window lies within the disk
abbrev pub IsInside : Area → List ℕ → Type 0
IsInside area bytes = area.at + area.len ≤ length bytes

-- the window changes by this step, and no byte outside it changes
pub record InArea (area : Area) (step : List ℕ → List ℕ → Type 0) (old new : List ℕ) : Type 0 where
  pub outside : Torn area.at area.len old new
  pub inside : step (window area old) (window area new)
