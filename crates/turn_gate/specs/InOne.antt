-- Lists of numbers as one list: what a making fixes, as names and a plan of faults, in a machine's fixed list.
use Rattle.std.specs.Prelude.{ℕ, List, [], ◌∷◌, ◌++◌, length}

-- each list behind its length
abbrev pub in_one : List (List ℕ) → List ℕ
in_one [] = []
in_one (xs ∷ lists) = length xs ∷ xs ++ in_one lists
