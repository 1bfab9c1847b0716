-- The lines of a text.
use Rattle.std.specs.Prelude.{ℕ, List, [], ◌∷◌}
use Rattle.scenario.specs.Scripts.{lines_of}

-- behind a last line feed there is no line
abbrev pub without_end : List (List ℕ) → List (List ℕ)
without_end [] = []
without_end ([] ∷ []) = []
without_end (line ∷ lines) = line ∷ without_end lines

-- the lines of a text: each is ended by a line feed, but maybe the last
abbrev pub lines_in : List ℕ → List (List ℕ)
lines_in text = without_end (lines_of text)
