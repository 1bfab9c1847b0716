-- Lists of eight with a part for each node: node n's stands at place n - 1.
use Rattle.std.specs.Prelude.{ℕ, zero, suc, Bool, true, false, ◌&&◌, List, [], ◌∷◌, slice_index_or, slice_set}
use Rattle.std.specs.List.{list_any}
use Rattle.ucm_base.specs.declared.ids.NodeSet.{NodeSet}

-- the part of a node, or the default where there is no such node
abbrev pub part_of : {A : Type 0} → A → List A → ℕ → A
part_of d parts zero = d
part_of d parts (suc i) = slice_index_or parts i d

-- the list with another part of a node
abbrev pub with_part : {A : Type 0} → List A → ℕ → A → List A
with_part parts zero part = parts
with_part parts (suc i) part = slice_set parts i part

-- whether a node is in the set
abbrev pub flag_of : NodeSet → ℕ → Bool
flag_of nodes n = part_of false nodes.flags n

-- whether some node is in the set
abbrev pub any_flag : NodeSet → Bool
any_flag nodes = list_any (λ flag. flag) nodes.flags

-- whether the part of each flagged node passes the test
abbrev pub all_flagged : {A : Type 0} → (A → Bool) → List Bool → List A → Bool
all_flagged test [] parts = true
all_flagged test (false ∷ flags) [] = all_flagged test flags []
all_flagged test (true ∷ flags) [] = false
all_flagged test (false ∷ flags) (part ∷ parts) = all_flagged test flags parts
all_flagged test (true ∷ flags) (part ∷ parts) = test part && all_flagged test flags parts
