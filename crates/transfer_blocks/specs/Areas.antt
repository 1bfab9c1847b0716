-- What lies in an area, and what a put changes.
use Rattle.std.specs.Prelude.{◌≡◌, ℕ, ◌+◌, ◌<◌, ◌≤◌, ◌==◌, if◌then◌else◌, [], ◌++◌, length, take, drop, replicate, slice_index_or, slice_set}
use Rattle.ucm_base.specs.Limits.{transfer_limit, cluster_limit, package_limit}
use Rattle.ucm_base.specs.Parts.{Bytes}
use Rattle.pm_types.specs.Stored.{Areas}
use Rattle.transfer_blocks.specs.declared.area.Area.{Area}
use Rattle.transfer_blocks.specs.declared.area.Area.TheVariants.{Transfer, Side}

-- an area that a node has
abbrev pub IsArea : Area → Type 0
IsArea (Transfer slot) = slot < transfer_limit
IsArea (Side place side) = (place < cluster_limit) × (side < 2)

-- one of the two sides of a place
abbrev pub on_pair : ℕ → Bytes × Bytes → Bytes
on_pair side pair = if side == 0 then pair.0 else pair.1

abbrev pub with_side : ℕ → Bytes → Bytes × Bytes → Bytes × Bytes
with_side side content pair = if side == 0 then (content, pair.1) else (pair.0, content)

-- what lies in an area
abbrev pub content_of : Area → Areas → Bytes
content_of (Transfer slot) areas = slice_index_or areas.slots slot []
content_of (Side place side) areas = on_pair side (slice_index_or areas.sides place ([], []))

-- the areas with this content in one of them
abbrev pub with_content : Area → Bytes → Areas → Areas
with_content (Transfer slot) content areas = record areas { slots = slice_set areas.slots slot content }
with_content (Side place side) content areas =
    record areas {
      sides =
          slice_set areas.sides place (with_side side content (slice_index_or areas.sides place ([], [])));
    }

-- the content with these bytes at this place
abbrev pub overwritten : ℕ → Bytes → Bytes → Bytes
overwritten at bytes content = take at content ++ bytes ++ drop (at + length bytes) content

-- all areas, with nothing in them
abbrev pub no_contents : Areas
no_contents = record { slots = replicate transfer_limit []; sides = replicate cluster_limit ([], []) }

-- every area is there, and none is longer than a package
pub record AreasFit (areas : Areas) : Type 0 where
  pub slots : length areas.slots ≡ transfer_limit
  pub sides : length areas.sides ≡ cluster_limit
  pub contents : (area : Area) → IsArea area → length (content_of area areas) ≤ package_limit

-- the two agree but in the n bytes from this place on, and the new one isn't shorter
pub record AgreesOutside (at n : ℕ) (old new : Bytes) : Type 0 where
  pub no_shorter : length old ≤ length new
  pub before : take at new ≡ take at old
  pub behind : drop (at + n) new ≡ drop (at + n) old

-- only bytes of this area may differ, and of it only the n from this place on
pub record LeavesOutside (area : Area) (at n : ℕ) (old new : Areas) : Type 0 where
  pub here : AgreesOutside at n (content_of area old) (content_of area new)
  pub elsewhere : new ≡ with_content area (content_of area new) old
