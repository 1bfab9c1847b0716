-- Counts of faults.
use Rattle.std.specs.Prelude.{ℕ, ◌+◌, ◌-◌, ◌^◌, ◌≤◌, min}

-- the count with one fault more: a u64 stays at its last value
abbrev pub one_more : ℕ → ℕ
one_more count = min (count + 1) (2 ^ 64 - 1)

-- a count has risen, or stands at its last value
abbrev pub HasRisen : ℕ → ℕ → Type 0
HasRisen before now = one_more before ≤ now
