-- Decimal numbers: digits, without a zero before others, with a value that a u64 has.
use Rattle.std.specs.Prelude.{ℕ, ◌+◌, ◌-◌, ◌*◌, ◌^◌, ◌&&◌, ◌==◌, not, nat_le, nat_lt, Bool, false, if◌then◌else◌, List, [], ◌∷◌, Option, Some, None}
use Rattle.std.specs.List.{list_all}

-- `0` to `9`
abbrev pub is_digit : ℕ → Bool
is_digit b = nat_le 48 b && nat_le b 57

abbrev pub is_decimal : List ℕ → Bool
is_decimal [] = false
is_decimal (b ∷ []) = is_digit b
is_decimal (b ∷ c ∷ rest) = not (b == 48) && list_all is_digit (b ∷ c ∷ rest)

-- the value of digits, where those before have this one
abbrev pub value_from : ℕ → List ℕ → ℕ
value_from value [] = value
value_from value (b ∷ digits) = value_from (value * 10 + (b - 48)) digits

abbrev pub value_of : List ℕ → ℕ
value_of digits = value_from 0 digits

-- the value, where a u64 has it
abbrev pub below_u64 : ℕ → Option ℕ
below_u64 value = if nat_lt value (2 ^ 64) then Some value else None

-- the number that a word spells
abbrev pub number_of_word : List ℕ → Option ℕ
number_of_word word = if is_decimal word then below_u64 (value_of word) else None
