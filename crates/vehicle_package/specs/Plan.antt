-- Plans: the steps of a tree and of a text, and their canonical text.
use Rattle.std.specs.Prelude.{◌≡◌, ℕ, ◌<◌, ◌≤◌, ◌&&◌, nat_le, nat_lt, Bool, if◌then◌else◌, List, [], ◌∷◌, length, map, codes, decimal, Option, Some, None, option_and_then}
use Rattle.std.specs.List.{concat, join_with_byte}
use Rattle.std.specs.Str.{is_utf8}
use Rattle.serde_json.specs.Data.{Data}
use Rattle.serde_json.specs.Find.{as_array, as_number, as_u64}
use Rattle.serde_json.specs.Read.{read}
use Rattle.manifest.specs.Trees.{all_of, field, has_keys, items_list, only}
use Rattle.ucm_base.specs.Limits.{node_limit, step_limit}
use Rattle.vehicle_package.specs.declared.vehicle.Step.{Step}

-- a number without sign, point and exponent
abbrev pub number_of_tree : Data → Option ℕ
number_of_tree d = option_and_then as_u64 (as_number d)

-- a node, 1 to 8
abbrev pub node_of_tree : Data → Option ℕ
node_of_tree d = option_and_then (only (λ n. nat_le 1 n && nat_le n node_limit)) (number_of_tree d)

-- a package's place, below their count
abbrev pub package_of_tree : ℕ → Data → Option ℕ
package_of_tree count d = option_and_then (only (λ n. nat_lt n count)) (number_of_tree d)

abbrev pub step_with : Option ℕ → Option ℕ → Option Step
step_with (Some n) (Some p) = Some (record { node = n; «package» = p })
step_with n p = None

-- an object with exactly the keys `node` and `package`
abbrev pub step_of_tree : ℕ → Data → Option Step
step_of_tree count d = if has_keys 2 d
    then step_with (field (codes "node") node_of_tree d) (field (codes "package") (package_of_tree count) d)
    else None

-- 1 to 128 steps
abbrev pub are_few : ℕ → Bool
are_few n = nat_le 1 n && nat_le n step_limit

-- an array of steps
abbrev pub steps_of_tree : ℕ → Data → Option (List Step)
steps_of_tree count d = option_and_then
    (λ ds. if are_few (length (items_list ds)) then all_of (step_of_tree count) (items_list ds) else None)
    (as_array d)

-- an object with exactly the key `steps`
abbrev pub plan_of_tree : ℕ → Data → Option (List Step)
plan_of_tree count d = if has_keys 1 d then field (codes "steps") (steps_of_tree count) d else None

-- the steps of a text over so many packages: UTF-8, and JSON whose tree is a plan's
unfoldable pub plan_of : ℕ → List ℕ → Option (List Step)
plan_of count text = if is_utf8 text then option_and_then (plan_of_tree count) (read text) else None

-- `{"node":..,"package":..}`
abbrev pub step_text : Step → List ℕ
step_text s = concat
    (codes "{\"node\":" ∷ decimal s.node ∷ codes ",\"package\":" ∷ decimal s.package ∷ codes "}" ∷ [])

-- `{"steps":[..]}`, with a comma between each two
abbrev pub plan_text : List Step → List ℕ
plan_text steps = concat (codes "{\"steps\":[" ∷ join_with_byte 44 (map step_text steps) ∷ codes "]}" ∷ [])

-- a node from 1 to 8, and a package below their count
pub record IsStep (count : ℕ) (s : Step) : Type 0 where
  pub some : 1 ≤ s.node
  pub few : s.node ≤ node_limit
  pub below : s.«package» < count
