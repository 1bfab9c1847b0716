-- Where the extents of a disk lie, and what the areas of an image hold.
use Rattle.std.specs.Prelude.{ℕ, ◌+◌, ◌*◌, ◌≤◌, List, length, map}
use Rattle.std.specs.List.{range_with_len}
use Rattle.ucm_base.specs.Limits.{transfer_limit, cluster_limit}
use Rattle.pm_types.specs.Stored.{Areas}
use Rattle.disk_area.specs.declared.area.Area.{Area as Window}
use Rattle.disk_area.specs.Windows.{window}
use Rattle.transfer_blocks.specs.declared.area.Area.{Area}
use Rattle.transfer_blocks.specs.declared.area.Area.TheVariants.{Transfer, Side}
use Rattle.slot_store.specs.declared.places.Places.{Places}

-- the places of a node's extents
abbrev pub node_places : Places
node_places = record { slots = 67108864; sides = 201326592; len = 16777216 }

-- where the last extent of a node ends: the bytes of its disk
abbrev pub node_end : ℕ
node_end = 2348810240

-- the extent of an area: the slots lie behind one another, and so do the sides, the two of a place together
abbrev pub extent_in : Places → Area → Window
extent_in places (Transfer slot) = record { at = places.slots + slot * places.len; len = places.len }
extent_in places (Side place side) =
    record { at = places.sides + (2 * place + side) * places.len; len = places.len }

-- what a slot holds
abbrev pub slot_in : Places → List ℕ → ℕ → List ℕ
slot_in places image slot = window (extent_in places (Transfer slot)) image

-- what the two sides of a place hold
abbrev pub sides_in : Places → List ℕ → ℕ → List ℕ × List ℕ
sides_in places image place =
    (window (extent_in places (Side place 0)) image, window (extent_in places (Side place 1)) image)

-- what the areas of an image hold: whole extents, of which a state names the first bytes
unfoldable pub held_in : Places → List ℕ → Areas
held_in places image = record {
  slots = map (slot_in places image) (range_with_len 0 transfer_limit);
  sides = map (sides_in places image) (range_with_len 0 cluster_limit);
}

-- all extents lie within the disk
abbrev pub HasExtents : Places → List ℕ → Type 0
HasExtents places image = places.sides + 2 * cluster_limit * places.len ≤ length image
