-- The clusters that steps change on their nodes.
use Rattle.std.specs.Prelude.{ℕ, zero, suc, ◌+◌, ◌==◌, ◌&&◌, Bool, List, [], length, map, find, take, slice_get, Option, Some, None, option_and_then, option_map, unwrap_or}
use Rattle.std.specs.List.{flat_map, list_any}
use Rattle.std.specs.Str.{bytes_eq}
use Rattle.ucm_base.specs.Parts.{Bytes, cluster_of}
use Rattle.ucm_base.specs.declared.parts.Part.{Part}
use Rattle.package_reader.specs.Packed.{PackedOf}
use Rattle.vehicle_package.specs.declared.changes.Change.{Change}
use Rattle.vehicle_package.specs.declared.vehicle.Step.{Step}

-- the parts that a step brings
abbrev pub parts_of : List PackedOf → Step → List (Part Bytes)
parts_of packages step = unwrap_or (option_map (λ p. p.parts) (slice_get packages step.«package»)) []

-- the bytes of the package that a step brings; none, where there is no such package
abbrev pub bytes_of : List PackedOf → Step → Bytes
bytes_of packages step = unwrap_or (option_map (λ p. p.bytes) (slice_get packages step.«package»)) []

-- the cluster that a part changes on a node
abbrev pub change_on : {C : Type 0} → ℕ → Part C → Change
change_on node part = record { node = node; cluster = cluster_of part }

-- the clusters that a step changes on its node
abbrev pub changes_of : List PackedOf → Step → List Change
changes_of packages step = map (change_on step.node) (parts_of packages step)

-- whether the same cluster of the same node is among them
abbrev pub has_change : List Change → Change → Bool
has_change above c = list_any (λ other. (other.node == c.node) && bytes_eq other.cluster c.cluster) above

-- the first that is changed above, too
abbrev pub again_in : List Change → List Change → Option Change
again_in above changes = find (has_change above) changes

-- the clusters that the steps before a place change on their nodes
abbrev pub changed_before : List PackedOf → List Step → ℕ → List Change
changed_before packages steps place = flat_map (changes_of packages) (take place steps)

-- the first cluster of the step at a place that an earlier step changes on the same node
abbrev pub twice_at : List PackedOf → List Step → ℕ → Option Change
twice_at packages steps place = option_and_then
    (λ step. again_in (changed_before packages steps place) (changes_of packages step)) (slice_get steps place)

abbrev pub or_else_below : Option Change → Option Change → Option Change
or_else_below (Some c) below = Some c
or_else_below None below = below

-- what the first of so many places from this one on has, of those that have one
abbrev pub first_at : (ℕ → Option Change) → ℕ → ℕ → Option Change
first_at at place zero = None
first_at at place (suc n) = or_else_below (at place) (first_at at (place + 1) n)

-- in order of the steps, and in each in order of its parts, the first cluster that an earlier step changes on the same
-- node
abbrev pub twice_in : List PackedOf → List Step → Option Change
twice_in packages steps = first_at (twice_at packages steps) 0 (length steps)
