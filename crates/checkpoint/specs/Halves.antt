-- The halves of a disk, and what one holds.
use Rattle.std.specs.Prelude.{ℕ, ◌+◌, ◌-◌, ◌≤◌, ◌==◌, nat_le, nat_lt, if◌then◌else◌, List, ◌++◌, length, take, drop, replicate, slice_index, Option, Some, None}
use Rattle.std.specs.Int.{from_be_bytes, w32, w64}
use Rattle.disk_area.specs.declared.area.Area.{Area}
use Rattle.disk_area.specs.Windows.{window}
use Rattle.wire.specs.Fields.{u64_field, bytes_field}
use Rattle.checkpoint.specs.declared.layout.Layout.{Layout}

-- halves 0 and 1
abbrev pub layout_1 : Layout
layout_1 = record {
  low = 0;
  lower = 0;
  upper = 2097152;
  journal_at = 262144;
  journal_len = 1835008;
  state_max = 131072;
}

-- halves 2 and 3
abbrev pub layout_2 : Layout
layout_2 = record {
  low = 2;
  lower = 50331648;
  upper = 58720256;
  journal_at = 1048576;
  journal_len = 7340032;
  state_max = 524288;
}

-- the layout of half h
unfoldable pub layout_of : ℕ → Layout
layout_of half = if nat_lt half 2 then layout_1 else layout_2

-- where half h of this layout begins
abbrev pub begins_in : Layout → ℕ → ℕ
begins_in layout half = if half == layout.low then layout.lower else layout.upper

-- where half h begins
unfoldable pub begins : ℕ → ℕ
begins half = begins_in (layout_of half) half

-- the other half of its pair
unfoldable pub other : ℕ → ℕ
other half = if half == (layout_of half).low then (layout_of half).low + 1 else (layout_of half).low

-- the gate, the body and the first byte of the journal of half h
abbrev pub head_area : ℕ → Area
head_area half = record { at = begins half; len = (layout_of half).journal_at + 1 }

-- the journal of half h
abbrev pub journal_area : ℕ → Area
journal_area half = record { at = begins half + (layout_of half).journal_at; len = (layout_of half).journal_len }

-- half h lies within the disk
abbrev pub HasHalf : ℕ → List ℕ → Type 0
HasHalf half bytes = begins half + (layout_of half).journal_at + (layout_of half).journal_len ≤ length bytes

-- both halves of a pair lie within the disk
abbrev pub HasPair : Layout → List ℕ → Type 0
HasPair layout bytes = layout.upper + layout.journal_at + layout.journal_len ≤ length bytes

-- the bytes from the begin of the lower half to the end of the other one
abbrev pub pair_area : Layout → Area
pair_area layout =
    record { at = layout.lower; len = layout.upper + layout.journal_at + layout.journal_len - layout.lower }

-- a stored state and its generation
pub record Body : Type 0 where
  pub generation : ℕ
  pub state : List ℕ

-- the body that these bytes begin with, unless its state would be longer than `most`
abbrev pub body_of : ℕ → List ℕ → Option Body
body_of most bytes =
    if nat_le (from_be_bytes w32 (take 4 (drop 8 bytes))) most
    then Some (record {
      generation = from_be_bytes w64 (take 8 bytes);
      state = take (from_be_bytes w32 (take 4 (drop 8 bytes))) (drop 12 bytes);
    })
    else None

-- what a head reads as: nothing where its gate isn't 1
abbrev pub read_of : ℕ → List ℕ → Option Body
read_of most head = if slice_index head 0 == 1 then body_of most (drop 1 head) else None

-- the n bytes of a body, padded with zeros
abbrev pub padded : ℕ → Body → List ℕ
padded n body = u64_field body.generation ++ bytes_field body.state ++ replicate (n - (12 + length body.state)) 0

-- what half h reads as
abbrev pub half_of : ℕ → List ℕ → Option Body
half_of half image = read_of (layout_of half).state_max (window (head_area half) image)

-- what half h would read as behind an open gate
abbrev pub stored_in : ℕ → List ℕ → Option Body
stored_in half image = body_of (layout_of half).state_max (drop 1 (window (head_area half) image))
