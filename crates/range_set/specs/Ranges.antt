-- Ranges on tracks: entries ((track, last), first), in order.
use Rattle.std.specs.Prelude.{ℕ, ◌+◌, ◌&&◌, ◌||◌, ◌==◌, nat_lt, nat_le, Bool, true, List, [], ◌∷◌}
use Rattle.std.specs.List.{list_any}

-- the entry of a range
abbrev pub track_range : ℕ → ℕ → ℕ → (ℕ × ℕ) × ℕ
track_range track first last = ((track, last), first)

-- an entry is of this track and has a number in common with the range
abbrev pub meets : ℕ → ℕ → ℕ → (ℕ × ℕ) × ℕ → Bool
meets track first last e = (e.0.0 == track) && (nat_le e.1 last && nat_le first e.0.1)

-- one of the entries does
abbrev pub is_met : List ((ℕ × ℕ) × ℕ) → ℕ → ℕ → ℕ → Bool
is_met es track first last = list_any (meets track first last) es

-- each entry begins behind the one before it, on its track or on a later one; the first begins at `low` or later
abbrev pub is_apart : ℕ → ℕ → List ((ℕ × ℕ) × ℕ) → Bool
is_apart track low [] = true
is_apart track low (e ∷ es) =
    ((nat_lt track e.0.0 || ((track == e.0.0) && nat_le low e.1)) && nat_le e.1 e.0.1) && is_apart e.0.0 (e.0.1 + 1) es
