-- What the lines of a recipe have made: packages, and the steps of a vehicle.
use Rattle.std.specs.Prelude.{ℕ, ◌==◌, ◌&&◌, ◌||◌, not, nat_lt, Bool, true, false, if◌then◌else◌, List, [], ◌∷◌, ◌++◌, length, map, slice_get, codes, Option, Some, None, option_map, unwrap_or, Result, Ok, Err, ok_or}
use Rattle.std.specs.List.{list_any}
use Rattle.std.specs.Str.{bytes_eq}
use Rattle.ucm_base.specs.Limits.{step_limit, vehicle_limit}
use Rattle.ucm_base.specs.Parts.{Bytes, cluster_of}
use Rattle.ucm_base.specs.declared.parts.Part.{Part}
use Rattle.package_reader.specs.Printing.{package_text}
use Rattle.vehicle_package.specs.declared.vehicle.Step.{Step}
use Rattle.vehicle_package.specs.Spelling.{vehicle_text}
use Rattle.scenario.specs.declared.why.Why.{Why}
use Rattle.scenario.specs.declared.why.Why.TheVariants.{Value, Unknown, Twice, Limit}
use Rattle.scenario.specs.Readings.{◌>>=◌, given}
use Rattle.scenario.specs.Words.{name_in}
use Rattle.recipe.specs.declared.parts.NamedPackage.{NamedPackage}
use Rattle.recipe.specs.declared.words.Making.{Making}
use Rattle.recipe.specs.declared.words.Making.TheVariants.{Package, With}
use Rattle.recipe.specs.Named.{added, has_cluster, joined, place_of}

-- the packages, the steps, and how many packages stand above the first step
pub record MadeOf : Type 0 where
  pub packages : List NamedPackage
  pub steps : List Step
  pub above : ℕ

abbrev pub nothing_made : MadeOf
nothing_made = record { packages = []; steps = []; above = 0 }

abbrev pub is_none : {A : Type 0} → List A → Bool
is_none [] = true
is_none (x ∷ xs) = false

-- the bytes of the packages, and of the vehicle that carries them all
abbrev pub texts_of : List NamedPackage → List Bytes
texts_of packages = map (λ p. package_text p.parts) packages

abbrev pub vehicle_of : MadeOf → Bytes
vehicle_of made = vehicle_text made.steps (texts_of made.packages)

-- below the first step the vehicle of the lines up to it is within its limit
abbrev pub is_within : MadeOf → Bool
is_within made = is_none made.steps || not (nat_lt vehicle_limit (length (vehicle_of made)))

abbrev pub in_vehicle : MadeOf → Result MadeOf Why
in_vehicle made = given (is_within made) made Limit

-- a package to which a part may be added: one of a line above that no step names
abbrev pub is_open_at : MadeOf → Option ℕ → Bool
is_open_at made None = false
is_open_at made (Some place) = not (list_any (λ step. step.«package» == place) made.steps)

-- the name of the package that a line makes or adds to; `vehicle` is kept for the vehicle
abbrev pub owner_in : MadeOf → Making → List ℕ → Result (List ℕ) Why
owner_in made Package word = name_in word >>= λ n. given (not (bytes_eq n (codes "vehicle"))) n Value
owner_in made With word = name_in word >>= λ n. given (is_open_at made (place_of made.packages n)) n Unknown

-- one package more, or one part
abbrev pub changed : List NamedPackage → Making → List ℕ → Part Bytes → Result (List NamedPackage) Why
changed packages Package name part = added packages name part
changed packages With name part = joined packages name part

abbrev pub put : MadeOf → Making → List ℕ → Part Bytes → Result MadeOf Why
put made making name part =
    changed made.packages making name part >>= λ ps.
    in_vehicle (record { packages = ps; steps = made.steps; above = made.above })

-- the parts of the package at a place
abbrev pub parts_at : List NamedPackage → ℕ → List (Part Bytes)
parts_at packages place = unwrap_or (option_map (λ p. p.parts) (slice_get packages place)) []

-- whether a step brings the cluster to the node
abbrev pub brings : List NamedPackage → ℕ → List ℕ → Step → Bool
brings packages node name step = (step.node == node) && has_cluster (parts_at packages step.«package») name

-- whether a step above brings a cluster of this one's package to its node
abbrev pub is_twice : MadeOf → Step → Bool
is_twice made step =
    list_any (λ part. list_any (brings made.packages step.node (cluster_of part)) made.steps)
    (parts_at made.packages step.«package»)

abbrev pub above_first : MadeOf → ℕ
above_first made = if is_none made.steps then length made.packages else made.above

-- one step more, at most 128
abbrev pub stepped : MadeOf → Step → Result MadeOf Why
stepped made step =
    if is_twice made step then Err Twice
    else given (nat_lt (length made.steps) step_limit)
    (record { packages = made.packages; steps = made.steps ++ step ∷ []; above = above_first made }) Limit
    >>= in_vehicle

-- a step with the package of a name
abbrev pub step_added : MadeOf → ℕ → List ℕ → Result MadeOf Why
step_added made node name =
    ok_or (place_of made.packages name) Unknown >>= λ place. stepped made (record { node = node; «package» = place })
