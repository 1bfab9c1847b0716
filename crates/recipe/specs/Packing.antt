-- What is packed of a recipe.
use Rattle.std.specs.Prelude.{ℕ, List, [], ◌∷◌, ◌++◌, ◌&&◌, ◌||◌, Bool, false, length, map, drop, codes, decimal, if◌then◌else◌, Result, Ok, Err}
use Rattle.std.specs.List.{flat_map, insert}
use Rattle.std.specs.Str.{bytes_eq}
use Rattle.package_reader.specs.Printing.{package_text}
use Rattle.scenario.specs.declared.why.Why.{Why}
use Rattle.scenario.specs.declared.why.Why.TheVariants.{Missing}
use Rattle.scenario.specs.Scripts.{Refused, words_of}
use Rattle.recipe.specs.declared.packing.Kind.{Kind}
use Rattle.recipe.specs.declared.packing.Kind.TheVariants.{Package, Vehicle, Script}
use Rattle.recipe.specs.declared.parts.NamedPackage.{NamedPackage}
use Rattle.recipe.specs.Lines.{lines_in}
use Rattle.vehicle_package.specs.declared.vehicle.Step.{Step}
use Rattle.recipe.specs.Made.{MadeOf, is_none, vehicle_of}
use Rattle.recipe.specs.Packages.{is_step}
use Rattle.recipe.specs.Recipes.{recipe_of}

-- a package's bytes, under its name
pub record NamedBytes : Type 0 where
  pub name : List ℕ
  pub bytes : List ℕ

abbrev pub printed : NamedPackage → NamedBytes
printed p = record { name = p.name; bytes = package_text p.parts }

-- `attach <name> <length>`
abbrev pub attach_text : NamedBytes → List ℕ
attach_text a = codes "attach " ++ a.name ++ 32 ∷ decimal (length a.bytes)

abbrev pub first_of : List (List ℕ) → List ℕ
first_of [] = []
first_of (word ∷ words) = word

-- the first word of a line
abbrev pub first_word : List ℕ → List ℕ
first_word line = first_of (words_of line)

abbrev pub attach_first : List NamedBytes → List ℕ
attach_first [] = []
attach_first (a ∷ more) = attach_text a

-- the vehicle is what is attached next; no package has its name
abbrev pub is_vehicle_next : List NamedBytes → Bool
is_vehicle_next [] = false
is_vehicle_next (a ∷ more) = bytes_eq a.name (codes "vehicle")

-- whether what is attached next stands at this line: a package at its line, the vehicle at the first step
abbrev pub attaches_at : List NamedBytes → List ℕ → Bool
attaches_at made word = bytes_eq word (codes "package") || (is_step word && is_vehicle_next made)

abbrev pub attaches : List NamedBytes → List ℕ → Bool
attaches made line = attaches_at made (first_word line)

-- what a line becomes in the script: what is attached stands in place of its line, a line that adds a part and a later
-- step become comments, and another line stays as it is
abbrev pub line_text : List NamedBytes → List ℕ → List ℕ
line_text made line =
    if attaches made line then attach_first made
    else if bytes_eq (first_word line) (codes "with") || is_step (first_word line) then codes "#"
    else line

-- what is attached below a line
abbrev pub behind : List NamedBytes → List ℕ → List NamedBytes
behind made line = if attaches made line then drop 1 made else made

-- the lines of the script, each ended by a line feed
abbrev pub text_of : List NamedBytes → List (List ℕ) → List ℕ
text_of made [] = []
text_of made (line ∷ lines) = line_text made line ++ 10 ∷ text_of (behind made line) lines

-- the script, with the packages behind its line `end`; a recipe that makes none is a script already
abbrev pub script_of : List ℕ → List NamedBytes → List ℕ
script_of input [] = input
script_of input (a ∷ more) = text_of (a ∷ more) (lines_in input) ++ codes "end\n" ++ flat_map (λ b. b.bytes) (a ∷ more)

abbrev pub missing : Refused
missing = record { line = 0; why = Missing }

-- the one package, where there is no step
abbrev pub package_alone : List NamedPackage → List Step → Result (List ℕ) Refused
package_alone (p ∷ []) [] = Ok (package_text p.parts)
package_alone packages steps = Err missing

-- the vehicle, where there is a step
abbrev pub vehicle_alone : MadeOf → Result (List ℕ) Refused
vehicle_alone made = if is_none made.steps then Err missing else Ok (vehicle_of made)

-- what is attached, in order of the lines: the vehicle stands behind the packages above its first step
abbrev pub attached : MadeOf → List NamedBytes
attached made =
    if is_none made.steps then map printed made.packages
    else insert (map printed made.packages) made.above (record { name = codes "vehicle"; bytes = vehicle_of made })

abbrev pub written : Kind → List ℕ → Result MadeOf Refused → Result (List ℕ) Refused
written kind input (Err refused) = Err refused
written Package input (Ok made) = package_alone made.packages made.steps
written Vehicle input (Ok made) = vehicle_alone made
written Script input (Ok made) = Ok (script_of input (attached made))

-- what is packed of a recipe, or its first line that is refused
abbrev pub packed : Kind → List ℕ → Result (List ℕ) Refused
packed kind input = written kind input (recipe_of input)
