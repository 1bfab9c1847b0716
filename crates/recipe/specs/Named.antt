-- The packages of a recipe, one part or one package more.
use Rattle.std.specs.Prelude.{ℕ, ◌&&◌, not, nat_lt, Bool, if◌then◌else◌, List, [], ◌∷◌, ◌++◌, length, position, slice_get, slice_set, Option, Some, None, Result, Ok, Err, ok_or}
use Rattle.std.specs.List.{list_any}
use Rattle.std.specs.Str.{bytes_eq}
use Rattle.ucm_base.specs.Limits.{carried_limit, part_limit}
use Rattle.ucm_base.specs.Parts.{Bytes, cluster_of}
use Rattle.ucm_base.specs.declared.parts.Part.{Part}
use Rattle.package_reader.specs.Printing.{is_too_large}
use Rattle.scenario.specs.declared.why.Why.{Why}
use Rattle.scenario.specs.declared.why.Why.TheVariants.{Unknown, Twice, Limit}
use Rattle.scenario.specs.Readings.{◌>>=◌, given}
use Rattle.recipe.specs.declared.parts.NamedPackage.{NamedPackage}

-- the place of the package of a name
abbrev pub place_of : List NamedPackage → List ℕ → Option ℕ
place_of made name = position (λ p. bytes_eq p.name name) made

abbrev pub has_named : List NamedPackage → List ℕ → Bool
has_named made name = list_any (λ p. bytes_eq p.name name) made

-- whether a part is of the cluster
abbrev pub has_cluster : List (Part Bytes) → List ℕ → Bool
has_cluster parts name = list_any (λ part. bytes_eq (cluster_of part) name) parts

-- the parts with one more, which is of another cluster, within the limits of a package
abbrev pub with_part : List (Part Bytes) → Part Bytes → Result (List (Part Bytes)) Why
with_part parts part =
    if has_cluster parts (cluster_of part) then Err Twice
    else given (nat_lt (length parts) part_limit && not (is_too_large (parts ++ part ∷ []))) (parts ++ part ∷ []) Limit

-- one package more, at most 128 of different names
abbrev pub added : List NamedPackage → List ℕ → Part Bytes → Result (List NamedPackage) Why
added made name part =
    if has_named made name then Err Twice
    else given (nat_lt (length made) carried_limit) [] Limit >>= λ none. with_part none part
    >>= λ parts. Ok (made ++ record { name = name; parts = parts } ∷ [])

-- one part more in the package of a name
abbrev pub joined : List NamedPackage → List ℕ → Part Bytes → Result (List NamedPackage) Why
joined made name part = do
  place ← ok_or (place_of made name) Unknown
  owner ← ok_or (slice_get made place) Unknown
  parts ← with_part owner.parts part
  Ok (slice_set made place (record owner { parts = parts }))
