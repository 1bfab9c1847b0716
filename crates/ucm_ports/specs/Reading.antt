-- What the bytes of a source are to who reads all of them.
use Rattle.std.specs.Prelude.{ℕ, if◌then◌else◌, nat_lt, List, length, Option, Some, None}

-- all the bytes, unless they are more than the limit; how the source parts them doesn't count
abbrev pub whole : ℕ → List ℕ → Option (List ℕ)
whole limit left = if nat_lt limit (length left) then None else Some left
