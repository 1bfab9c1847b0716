-- What a write does to the bytes of a disk.
use Rattle.std.specs.Prelude.{◌≡◌, ℕ, ◌+◌, List, ◌++◌, length, take, drop}

-- the bytes with this piece at this place
abbrev pub put_at : List ℕ → ℕ → List ℕ → List ℕ
put_at bytes at piece = take at bytes ++ piece ++ drop (at + length piece) bytes

-- this piece was put at this place
abbrev pub Puts : ℕ → List ℕ → List ℕ → List ℕ → Type 0
Puts at piece old new = new ≡ put_at old at piece

-- the two agree but in the n bytes from this place on, where the new one may have any bytes
pub record Torn (at n : ℕ) (old new : List ℕ) : Type 0 where
  pub size : length new ≡ length old
  pub before : take at new ≡ take at old
  pub after : drop (at + n) new ≡ drop (at + n) old
