-- Digits and their value.
use Rattle.std.proofs.Common.{◌≡◌, ◌<◌, ◌≤◌, ◌+◌, ◌-◌, ◌*◌, ◌^◌, ◌∙◌, ℕ, List, [], ◌∷◌, length, get_or, drop, drop-cons, arith, add-one, refl, ap, Some, None}
use Rattle.std.proofs.lemmas.Bool.Decides.{nat_tests}
use Rattle.ucm_text.specs.Decimal.{below_u64, value_from}

-- a value doesn't fall by further digits
pub grows : (value : ℕ) (digits : List ℕ) → value ≤ value_from value digits
grows value [] = omega arith
grows value (b ∷ digits) = let h = grows (value * 10 + (b - 48)) digits in omega arith

-- where a value doesn't fit, no greater one does
pub too-large : (m n : ℕ) → None ≡ below_u64 m → m ≤ n → None ≡ below_u64 n
too-large m n none le = grind (arith, nat_tests)

-- where a value fits, it is the one found
pub found : (m v : ℕ) → Some v ≡ below_u64 m → v ≡ m
found m v some = grind (arith, nat_tests)

-- the digit at a place is the next one
pub next : (value i : ℕ) (digits : List ℕ) → i < length digits
    → value_from value (drop i digits) ≡ value_from (value * 10 + (get_or digits i 0 - 48)) (drop (i + 1) digits)
next value i digits h = ap (value_from value) (drop-cons digits i 0 h) ∙ rw add-one refl

-- a value that fits is found
pub fits : (v m : ℕ) → v ≡ m → v < 2 ^ 64 → Some v ≡ below_u64 m
fits v m e small = grind (arith, nat_tests)
