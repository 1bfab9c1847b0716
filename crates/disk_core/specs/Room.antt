-- The room for writes that a disk has made.
use Rattle.std.specs.Prelude.{◌≡◌, ℕ, ◌+◌, ◌≤◌}

-- how many writes, and for how many bytes together
pub record Room : Type 0 where
  pub writes : ℕ
  pub bytes : ℕ

-- at least so many writes, of at most so many bytes together
pub record HasRoom (writes bytes : ℕ) (room : Room) : Type 0 where
  pub enough_writes : writes ≤ room.writes
  pub enough_bytes : bytes ≤ room.bytes

-- one write of n bytes has used up its part
pub record UsesUp (n : ℕ) (old new : Room) : Type 0 where
  pub one_write : new.writes + 1 ≡ old.writes
  pub its_bytes : new.bytes + n ≡ old.bytes
