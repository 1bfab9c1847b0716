-- Digests in hexadecimal text of lower case.
use Rattle.std.specs.Prelude.{ℕ, ◌&&◌, ◌||◌, nat_le, Bool, List, Option, Some, None, Result, Ok, Err, if◌then◌else◌}
use Rattle.std.specs.List.{list_all}
use Rattle.hex.specs.Hex.{decode_sized}
use Rattle.hex.specs.declared.error.FromHexError.{FromHexError}

-- `0` to `9` and `a` to `f`
abbrev pub is_lower_digit : ℕ → Bool
is_lower_digit c = (nat_le 48 c && nat_le c 57) || (nat_le 97 c && nat_le c 102)

-- the value, where there is one
abbrev pub ok_of : Result (List ℕ) FromHexError → Option (List ℕ)
ok_of (Ok bytes) = Some bytes
ok_of (Err e) = None

-- the 32 bytes of 64 lower-case digits
abbrev pub digest_of_text : List ℕ → Option (List ℕ)
digest_of_text word = if list_all is_lower_digit word then ok_of (decode_sized word 32) else None
