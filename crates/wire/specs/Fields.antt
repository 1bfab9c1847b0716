-- The spellings of wire fields. Numbers are big-endian.
use Rattle.std.specs.Prelude.{ℕ, ◌+◌, ◌<◌, ◌⊎◌, List, [], ◌∷◌, ◌++◌, length, take}
use Rattle.std.specs.Int.{to_be_bytes, from_be_bytes, w16, w32, w64}

abbrev pub u8_field : ℕ → List ℕ
u8_field value = value ∷ []

abbrev pub u16_field : ℕ → List ℕ
u16_field value = to_be_bytes w16 value

abbrev pub u32_field : ℕ → List ℕ
u32_field value = to_be_bytes w32 value

abbrev pub u64_field : ℕ → List ℕ
u64_field value = to_be_bytes w64 value

-- a length of four bytes, and so many bytes
abbrev pub bytes_field : List ℕ → List ℕ
bytes_field value = u32_field (length value) ++ value

-- the length is missing, or fewer bytes follow than it says
abbrev pub HasNoBytesField : List ℕ → Type 0
HasNoBytesField bytes = (length bytes < 4) ⊎ (length bytes < 4 + from_be_bytes w32 (take 4 bytes))
