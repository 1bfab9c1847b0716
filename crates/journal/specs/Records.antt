-- The records that the bytes of a journal's area hold.
use Rattle.std.specs.Prelude.{ℕ, zero, suc, ◌+◌, cond, ◌&&◌, eqb, leb, List, [], ◌∷◌, length, take, drop}
use Rattle.std.specs.Int.{from_be_bytes, w32}

-- the number that four bytes write, the high one first
unfoldable pub number_of : ℕ → ℕ → ℕ → ℕ → ℕ
number_of a b c d = from_be_bytes w32 (a ∷ b ∷ c ∷ d ∷ [])

-- at most n records: each has a gate of 1, its length in four bytes and its payload, and is whole
abbrev pub records_in : ℕ → List ℕ → List (List ℕ)
records_in zero bytes = []
records_in (suc n) (gate ∷ a ∷ b ∷ c ∷ d ∷ rest) =
    cond (eqb gate 1 && leb (number_of a b c d) (length rest))
    (take (number_of a b c d) rest ∷ records_in n (drop (number_of a b c d) rest))
    []
records_in (suc n) bytes = []

-- the records up to the first place whose gate isn't 1 or whose record isn't whole
abbrev pub journal_list : List ℕ → List (List ℕ)
journal_list bytes = records_in (length bytes) bytes

-- how many bytes these records take
abbrev pub taken : List (List ℕ) → ℕ
taken [] = 0
taken (payload ∷ payloads) = 5 + length payload + taken payloads
