-- Blocks and sizes, as words name them, and what they mean among the attached bytes.
use Rattle.std.specs.Prelude.{ℕ, ◌+◌, ◌-◌, ◌*◌, min, nat_lt, nat_le, if◌then◌else◌, List, take, drop, length, replicate, codes, Option, Some, None, option_map, ok_or, Result, Ok, Err}
use Rattle.std.specs.Str.{bytes_eq}
use Rattle.ucm_base.specs.Limits.{block_limit, fill_limit, hex_limit}
use Rattle.ucm_text.specs.Hexadecimal.{bytes_of_word}
use Rattle.scenario.specs.declared.why.Why.{Why}
use Rattle.scenario.specs.declared.why.Why.TheVariants.{Value, Unknown}
use Rattle.scenario.specs.declared.attachments.Attached.{Attached}
use Rattle.scenario.specs.declared.blocks.BlockSource.{BlockSource}
use Rattle.scenario.specs.declared.blocks.BlockSource.TheVariants.{Fill, Bytes, Piece}
use Rattle.scenario.specs.Readings.{◌>>=◌, given}
use Rattle.scenario.specs.Attached.{Places, attached_by}
use Rattle.scenario.specs.Words.{cut, parts_in, number_in, from_one_in, name_in, byte_in}

-- the bytes of a block, among the attached ones
abbrev pub bytes_meant : List ℕ → BlockSource → List ℕ
bytes_meant attached (Fill size byte) = replicate size byte
bytes_meant attached (Bytes bytes) = bytes
bytes_meant attached (Piece at len) = take len (drop at attached)

-- how many bytes a block has
abbrev pub length_meant : BlockSource → ℕ
length_meant (Fill size byte) = size
length_meant (Bytes bytes) = length bytes
length_meant (Piece at len) = len

-- `<length>:<byte>`, with a length of at most 16,000,000
abbrev pub fill_in : List ℕ → Result BlockSource Why
fill_in rest = do
  parts ← parts_in 58 rest
  size ← number_in parts.0
  byte ← byte_in parts.1
  given (nat_le size fill_limit) (Fill size byte) Value

-- an even number of digits, at most 8,192
abbrev pub hex_in : List ℕ → Result BlockSource Why
hex_in digits = if nat_le (length digits) hex_limit then ok_or (option_map Bytes (bytes_of_word digits)) Value
    else Err Value

-- a block that needs no attachment, by what stands before its first colon and behind it
abbrev pub plain_block : List ℕ → List ℕ → Result BlockSource Why
plain_block kind rest =
    if bytes_eq kind (codes "fill") then fill_in rest
    else if bytes_eq kind (codes "hex") then hex_in rest
    else Err Value

-- the attachment of this name
abbrev pub known : Places → List ℕ → Result Attached Why
known places name = ok_or (attached_by places name) Unknown

-- a part of an attachment, where it lies within it
abbrev pub part_of : Attached → ℕ → ℕ → Result BlockSource Why
part_of a offset len = given (nat_le (offset + len) a.len) (Piece (a.at + offset) len) Unknown

-- the i-th piece of an attachment, i from 1: each has 4,096 bytes, but the last may be shorter
abbrev pub piece_of : Attached → ℕ → Result BlockSource Why
piece_of a i =
    let offset = (i - 1) * block_limit in
    given (nat_lt offset a.len) (Piece (a.at + offset) (min block_limit (a.len - offset))) Unknown

-- `<name>:<i>`
abbrev pub piece_in : Places → List ℕ → Result BlockSource Why
piece_in places rest = do
  parts ← parts_in 58 rest
  name ← name_in parts.0
  i ← from_one_in parts.1
  a ← known places name
  piece_of a i

-- `<name>:<offset>:<length>`
abbrev pub part_in : Places → List ℕ → Result BlockSource Why
part_in places rest = do
  parts ← parts_in 58 rest
  more ← parts_in 58 parts.1
  name ← name_in parts.0
  offset ← number_in more.0
  len ← number_in more.1
  a ← known places name
  part_of a offset len

abbrev pub block_of : Places → List ℕ → List ℕ → Result BlockSource Why
block_of places kind rest =
    if bytes_eq kind (codes "block") then piece_in places rest
    else if bytes_eq kind (codes "part") then part_in places rest
    else plain_block kind rest

-- `fill:<length>:<byte>`, `hex:<digits>`, `block:<name>:<i>` or `part:<name>:<offset>:<length>`
abbrev pub block_in : Places → List ℕ → Result BlockSource Why
block_in places word = parts_in 58 word >>= λ parts. block_of places parts.0 parts.1

-- `fill:<length>:<byte>` or `hex:<digits>`
abbrev pub plain_block_in : List ℕ → Result BlockSource Why
plain_block_in word = parts_in 58 word >>= λ parts. plain_block parts.0 parts.1

-- the length of an attachment, by what stands before a colon and behind it
abbrev pub length_in : Places → List ℕ → List ℕ → Result ℕ Why
length_in places kind rest =
    if bytes_eq kind (codes "size") then (name_in rest >>= known places >>= λ a. Ok a.len) else Err Value

abbrev pub size_by : Places → List ℕ → Option (List ℕ × List ℕ) → Result ℕ Why
size_by places word None = number_in word
size_by places word (Some parts) = length_in places parts.0 parts.1

-- a number, or `size:<name>`
abbrev pub size_in : Places → List ℕ → Result ℕ Why
size_in places word = size_by places word (cut 58 word)
