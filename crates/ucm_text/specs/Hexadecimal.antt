-- Hexadecimal text in lower case.
use Rattle.std.specs.Prelude.{ℕ, ◌&&◌, ◌||◌, nat_le, Bool, List, Option, Some, None, Result, Ok, Err, if◌then◌else◌}
use Rattle.std.specs.List.{list_all}
use Rattle.hex.specs.Hex.{decode_of}
use Rattle.hex.specs.declared.error.FromHexError.{FromHexError}

-- `0` to `9` and `a` to `f`
abbrev pub is_lower_digit : ℕ → Bool
is_lower_digit c = (nat_le 48 c && nat_le c 57) || (nat_le 97 c && nat_le c 102)

abbrev pub ok_of : Result (List ℕ) FromHexError → Option (List ℕ)
ok_of (Ok bytes) = Some bytes
ok_of (Err e) = None

-- the bytes that a word of lower-case digits spells, an even number of them
abbrev pub bytes_of_word : List ℕ → Option (List ℕ)
bytes_of_word word = if list_all is_lower_digit word then ok_of (decode_of word) else None
