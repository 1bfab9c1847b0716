-- Recipes: what their lines make, or the first line that is refused.
use Rattle.std.specs.Prelude.{ℕ, ◌+◌, nat_le, if◌then◌else◌, List, [], ◌∷◌, length, Option, Some, None, Result, Ok, Err}
use Rattle.ucm_base.specs.Limits.{need_limit}
use Rattle.scenario.specs.declared.why.Why.{Why}
use Rattle.scenario.specs.declared.why.Why.TheVariants.{Form}
use Rattle.scenario.specs.Readings.{◌>>=◌}
use Rattle.scenario.specs.Words.{name_in}
use Rattle.scenario.specs.Scripts.{Refused, followed, words_of}
use Rattle.recipe.specs.declared.words.Making.{Making}
use Rattle.recipe.specs.Packages.{is_step, making_of, part_in, vehicle_node_in}
use Rattle.recipe.specs.Made.{MadeOf, nothing_made, owner_in, put, step_added}
use Rattle.recipe.specs.Lines.{lines_in}

abbrev pub made_of : MadeOf → Making → List ℕ → List ℕ → List ℕ → List ℕ → List ℕ → List (List ℕ) → Result MadeOf Why
made_of made making name action cluster version block needs = do
  n ← owner_in made making name
  part ← part_in action cluster version block needs
  put made making n part

-- `<name> <action> <cluster> <version> <block> <need>*`, with at most 16 needs
abbrev pub made_by : MadeOf → Making → List (List ℕ) → Result MadeOf Why
made_by made making (name ∷ action ∷ cluster ∷ version ∷ block ∷ needs) =
    if nat_le (length needs) need_limit then made_of made making name action cluster version block needs else Err Form
made_by made making _ = Err Form

abbrev pub made_if : MadeOf → List (List ℕ) → Option Making → Result MadeOf Why
made_if made words (Some making) = made_by made making words
made_if made words None = Ok made

abbrev pub step_of : MadeOf → List ℕ → List ℕ → Result MadeOf Why
step_of made node name = do
  n ← vehicle_node_in node
  owner ← name_in name
  step_added made n owner

-- `<node> <name>`
abbrev pub step_by : MadeOf → List (List ℕ) → Result MadeOf Why
step_by made (node ∷ name ∷ []) = step_of made node name
step_by made _ = Err Form

-- what is made below a line, where this is made above it
abbrev pub below_words : MadeOf → List (List ℕ) → Result MadeOf Why
below_words made [] = Ok made
below_words made (first ∷ words) = if is_step first then step_by made words else made_if made words (making_of first)

abbrev pub below : MadeOf → List ℕ → Result MadeOf Why
below made line = below_words made (words_of line)

-- what lines make below others, where the first of them is the n-th
abbrev pub made_from : ℕ → MadeOf → List (List ℕ) → Result MadeOf Refused
made_from n made [] = Ok made
made_from n made (line ∷ lines) = followed n (λ m. made_from (n + 1) m lines) (below made line)

-- what all lines of a recipe make, in their order
abbrev pub recipe_of : List ℕ → Result MadeOf Refused
recipe_of input = made_from 1 nothing_made (lines_in input)
