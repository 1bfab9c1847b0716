-- What the writes of `prepare` do to a head.
use Rattle.std.specs.Prelude.{◌≡◌, ◌≢◌, ◌⊎◌, ℕ, List, length, take, drop, slice_index, None}
use Rattle.checkpoint.specs.Halves.{read_of}

-- the head reads as before, or as nothing, whatever the most bytes of a state
abbrev pub Quiet : List ℕ → List ℕ → Type 0
Quiet old new = (most : ℕ) → (read_of most new ≡ read_of most old) ⊎ (read_of most new ≡ None)

-- the gate isn't open
pub record Shut (old new : List ℕ) : Type 0 where
  pub size : length new ≡ length old
  pub shut : slice_index new 0 ≢ 1

-- the gate isn't open, and this body stands behind it
pub record Rewritten (bytes old new : List ℕ) : Type 0 where
  pub size : length new ≡ length old
  pub shut : slice_index new 0 ≢ 1
  pub behind : take (length bytes) (drop 1 new) ≡ bytes
