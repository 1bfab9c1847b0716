-- What is printed of actions, needs and sets of nodes.
use Rattle.std.specs.Prelude.{ℕ, ◌+◌, Bool, true, false, List, [], ◌∷◌, ◌++◌, codes}
use Rattle.std.specs.Fmt.{decimal}
use Rattle.std.specs.List.{join_by}
use Rattle.ucm_base.specs.declared.ids.NodeSet.{NodeSet}
use Rattle.ucm_base.specs.declared.parts.Action.{Action}
use Rattle.ucm_base.specs.declared.parts.Action.TheVariants.{Install, Update, Remove}
use Rattle.ucm_base.specs.declared.parts.Need.{Need}

abbrev pub action_text : Action → List ℕ
action_text Install = codes "install"
action_text Update = codes "update"
action_text Remove = codes "remove"

-- the cluster that is needed, and which versions of it will do
abbrev pub need_text : Need → List ℕ
need_text need = need.name ++ codes "@" ++ need.req

-- the numbers of the flagged nodes, where the first flag is that of node n
abbrev pub numbers_from : ℕ → List Bool → List ℕ
numbers_from n [] = []
numbers_from n (true ∷ flags) = n ∷ numbers_from (n + 1) flags
numbers_from n (false ∷ flags) = numbers_from (n + 1) flags

-- the numbers of a set's nodes, joined by commas
abbrev pub nodes_text : NodeSet → List ℕ
nodes_text nodes = join_by decimal (codes ",") (numbers_from 1 nodes.flags)
