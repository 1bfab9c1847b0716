-- How the parts of a package lie one behind the other in its bytes.
use Rattle.std.specs.Prelude.{◌≡◌, ℕ, ◌+◌, ◌*◌, ◌≤◌, ⊤, List, [], ◌∷◌, length, take, drop}
use Rattle.ucm_base.specs.Parts.{Bytes}
use Rattle.ucm_base.specs.declared.parts.Part.{Part}
use Rattle.package_reader.specs.Fields.{number_at}
use Rattle.package_reader.specs.Layout.{length_size}
pub use Rattle.package_reader.specs.Layout.{parts_place}

-- where the payload of the part at a place begins: behind its manifest's length, its manifest, and its own length
abbrev pub payload_at : Bytes → ℕ → ℕ
payload_at bytes place = place + 2 * length_size + number_at bytes place

-- the parts lie in the bytes from a place on
abbrev pub PartsLie : Bytes → ℕ → List (Part Bytes) → Type 0
PartsLie bytes place [] = ⊤
PartsLie bytes place (part ∷ parts) =
    let start = payload_at bytes place in
    (start + length part.payload ≤ length bytes) × (take (length part.payload) (drop start bytes) ≡ part.payload)
    × PartsLie bytes (start + length part.payload) parts
