-- What a seat has of one part: its entries, and the entry that may stand or not.
use Rattle.std.specs.Prelude.{◌≡◌, ◌⊎◌, ℕ, cond, eqb, List, [], ◌∷◌, ◌++◌, Option, Some, None}
use Rattle.turn_gate.specs.declared.view.Part.{Part}

-- the entries of the part with this number
abbrev pub mine_of : {E : Type 0} → ℕ → List (Part E) → List E
mine_of n [] = []
mine_of n (p ∷ ps) = cond (eqb p.number n) p.mine (mine_of n ps)

-- and its doubt
abbrev pub doubt_in : {E : Type 0} → ℕ → List (Part E) → Option E
doubt_in n [] = None
doubt_in n (p ∷ ps) = cond (eqb p.number n) p.doubt (doubt_in n ps)

-- the parts have the same of this number
abbrev pub HasSame : {E : Type 0} → ℕ → List (Part E) → List (Part E) → Type 0
HasSame n ps qs = (mine_of n qs ≡ mine_of n ps) × (doubt_in n qs ≡ doubt_in n ps)

-- what was in doubt is among the entries now, or isn't
abbrev pub Settles : {E : Type 0} → Option E → List E → List E → Type 0
Settles None mine after = after ≡ mine
Settles (Some d) mine after = (after ≡ mine) ⊎ (after ≡ mine ++ d ∷ [])
