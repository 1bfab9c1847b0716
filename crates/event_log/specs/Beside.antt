-- Bytes beside the halves of a pair.
use Rattle.std.specs.Prelude.{◌⊎◌, ℕ, ◌+◌, ◌≤◌, List}
use Rattle.disk_core.specs.Bytes.{Torn}
use Rattle.checkpoint.specs.Halves.{pair_area}
use Rattle.checkpoint.specs.declared.layout.Layout.{Layout}

-- the n bytes from this place on lie before the pair or behind it
abbrev pub IsBeside : Layout → ℕ → ℕ → Type 0
IsBeside layout at n = (at + n ≤ (pair_area layout).at) ⊎ ((pair_area layout).at + (pair_area layout).len ≤ at)

-- no byte outside the halves of the pair changed
abbrev pub InHalves : Layout → List ℕ → List ℕ → Type 0
InHalves layout old new = Torn (pair_area layout).at (pair_area layout).len old new
