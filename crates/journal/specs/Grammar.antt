-- Records in a grammar of the caller's.
use Rattle.std.specs.Prelude.{ℕ, Bool, if◌then◌else◌, List, [], ◌∷◌}

-- the records up to the first that is outside the grammar
abbrev pub in_grammar : (List ℕ → Bool) → List (List ℕ) → List (List ℕ)
in_grammar spells [] = []
in_grammar spells (payload ∷ payloads) = if spells payload then payload ∷ in_grammar spells payloads else []
