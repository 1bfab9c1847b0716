-- Spellings of values: fields behind one another, and what stands in front of other bytes.
use Rattle.std.specs.Prelude.{◌≡◌, ℕ, ◌<◌, ◌≤◌, ◌^◌, Bool, true, false, List, ◌++◌, length, IfSome, ⊤, Option, Some, None}
use Rattle.std.specs.List.{AllByRecursion, flat_map}
use Rattle.wire.specs.Fields.{u8_field}

-- one field behind another
infixr 65 ◌⌢◌
abbrev pub ◌⌢◌ : List ℕ → List ℕ → List ℕ
a ⌢ b = a ++ b

-- one condition and another
infixr 35 ◌&◌
abbrev pub ◌&◌ : Type 0 → Type 0 → Type 0
P & Q = P × Q

-- no condition
abbrev pub Any : {T : Type 0} → T → Type 0
Any v = ⊤

-- a number of so many bits
abbrev pub HasBits : ℕ → ℕ → Type 0
HasBits bits n = n < 2 ^ bits

-- the bytes begin with the spelling of no value that fits
abbrev pub IsOutside : {T : Type 0} → (T → List ℕ) → (T → Type 0) → List ℕ → Type 0
IsOutside {T} spelled fits bytes = (v : T) (rest : List ℕ) → fits v → bytes ≡ spelled v ++ rest → ⊥

-- bytes that begin with the spelling of a value that fits begin with no other
pub record IsUnique {T : Type 0} (spelled : T → List ℕ) (fits : T → Type 0) : Type 0 where
  pub one : (v w : T) (rest others : List ℕ) → fits v → fits w → spelled v ++ rest ≡ spelled w ++ others
      → (v ≡ w) × (rest ≡ others)

abbrev pub pair_spelled : {A B : Type 0} → (A → List ℕ) → (B → List ℕ) → A × B → List ℕ
pair_spelled a b p = a p.0 ⌢ b p.1

abbrev pub PairFits : {A B : Type 0} → (A → Type 0) → (B → Type 0) → A × B → Type 0
PairFits P Q p = P p.0 & Q p.1

-- 0, or 1 and the value
abbrev pub option_spelled : {T : Type 0} → (T → List ℕ) → Option T → List ℕ
option_spelled spelled None = u8_field 0
option_spelled spelled (Some v) = u8_field 1 ⌢ spelled v

abbrev pub OptionFits : {T : Type 0} → (T → Type 0) → Option T → Type 0
OptionFits P o = IfSome o P

abbrev pub bool_spelled : Bool → List ℕ
bool_spelled false = u8_field 0
bool_spelled true = u8_field 1

-- so many members, in order
abbrev pub ManyFit : {T : Type 0} → (T → Type 0) → ℕ → List T → Type 0
ManyFit P n xs = (length xs ≡ n) & AllByRecursion P xs

-- a count of one byte, and the members in order
abbrev pub list_spelled : {T : Type 0} → (T → List ℕ) → List T → List ℕ
list_spelled spelled xs = u8_field (length xs) ⌢ flat_map spelled xs

-- at most so many members
abbrev pub ListFits : {T : Type 0} → (T → Type 0) → ℕ → List T → Type 0
ListFits P n xs = (length xs ≤ n) & AllByRecursion P xs

-- the bytes are the spelling of no value that fits
abbrev pub IsNone : {T : Type 0} → (T → List ℕ) → (T → Type 0) → List ℕ → Type 0
IsNone {T} spelled fits bytes = (v : T) → fits v → bytes ≡ spelled v → ⊥
