-- The parts that a recipe's lines make.
use Rattle.std.specs.Prelude.{ℕ, ◌==◌, ◌&&◌, ◌||◌, nat_le, Bool, not, if◌then◌else◌, List, [], ◌∷◌, codes, Option, Some, None, Result, Ok, Err}
use Rattle.std.specs.Str.{bytes_eq}
use Rattle.sha2.specs.Sha256.{sha256}
use Rattle.ucm_base.specs.Limits.{node_limit}
use Rattle.ucm_base.specs.Parts.{Bytes}
use Rattle.ucm_base.specs.declared.parts.Action.{Action}
use Rattle.ucm_base.specs.declared.parts.Need.{Need}
use Rattle.ucm_base.specs.declared.parts.Part.{Part}
use Rattle.package_reader.specs.Reading.{is_remove}
use Rattle.scenario.specs.declared.why.Why.{Why}
use Rattle.scenario.specs.declared.why.Why.TheVariants.{Value}
use Rattle.scenario.specs.declared.blocks.BlockSource.{BlockSource}
use Rattle.scenario.specs.Readings.{◌>>=◌, given}
use Rattle.scenario.specs.Words.{action_in, name_in, needs_in, number_in, version_in}
use Rattle.scenario.specs.Blocks.{bytes_meant, length_meant, plain_block_in}
use Rattle.recipe.specs.declared.words.Making.{Making}
use Rattle.recipe.specs.declared.words.Making.TheVariants.{Package, With}

-- a block that needs no attachment; a removal's is empty
abbrev pub payload_in : Action → List ℕ → Result BlockSource Why
payload_in action word =
    plain_block_in word >>= λ b. given (not (is_remove action) || length_meant b == 0) b Value

-- the part whose manifest has the payload's digest
abbrev pub part_of : Action → List ℕ → List ℕ → List Need → Bytes → Part Bytes
part_of action cluster version needs payload = record {
  manifest = record { action = action; name = cluster; version = version; needs = needs; sha256 = sha256 payload };
  payload = payload;
}

-- `<action> <cluster> <version> <block> <need>*`
abbrev pub part_in : List ℕ → List ℕ → List ℕ → List ℕ → List (List ℕ) → Result (Part Bytes) Why
part_in action cluster version block needs = do
  a ← action_in action
  c ← name_in cluster
  v ← version_in version
  b ← payload_in a block
  ns ← needs_in needs
  Ok (part_of a c v ns (bytes_meant [] b))

-- what a line makes of packages, by its first word
abbrev pub making_of : List ℕ → Option Making
making_of first =
    if bytes_eq first (codes "package") then Some Package
    else if bytes_eq first (codes "with") then Some With
    else None

-- a line of a step
abbrev pub is_step : List ℕ → Bool
is_step first = bytes_eq first (codes "step")

-- a node of the vehicle, 1 to 8
abbrev pub vehicle_node_in : List ℕ → Result ℕ Why
vehicle_node_in word = number_in word >>= λ n. given (nat_le 1 n && nat_le n node_limit) n Value
