-- What the texts and notes of a tally mean.
use Rattle.std.specs.Prelude.{ℕ, ◌+◌, ◌^◌, ◌==◌, nat_lt, if◌then◌else◌, List, length, Option, Some, None}
use Rattle.std.specs.Int.{from_be_bytes, w64}
use Rattle.disk_tries.specs.declared.tally.Tally.{Tally}

-- the number that eight bytes write
abbrev pub tally_of : List ℕ → Option Tally
tally_of text = if length text == 8 then Some (record { bytes = from_be_bytes w64 text }) else None

-- with the bytes of a note, where a u64 has room for them
abbrev pub with_note : Tally → List ℕ → Option Tally
with_note tally note =
    if nat_lt (tally.bytes + length note) (2 ^ 64) then Some (record { bytes = tally.bytes + length note }) else None
