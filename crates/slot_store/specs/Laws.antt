-- An area holds its extent, and fits.
use Rattle.std.proofs.Common.{◌≡◌, ℕ, zero, suc, ◌<◌, List, [], length, drop, ap, ◌∙◌, refl, arith}
use Rattle.std.proofs.lemmas.List.{length-take}
use Rattle.std.proofs.lemmas.List.FromFn.{get_or-map-range_with_len, length-map-range_with_len}
use Rattle.disk_area.specs.Windows.{window}
use Rattle.ucm_base.specs.Limits.{transfer_limit, cluster_limit, package_limit}
use Rattle.transfer_blocks.specs.declared.area.Area.{Area}
use Rattle.transfer_blocks.specs.declared.area.Area.TheVariants.{Transfer, Side}
use Rattle.transfer_blocks.specs.Areas.{IsArea, on_pair, content_of, AreasFit}
use Rattle.slot_store.specs.Extents.{extent_in, slot_in, sides_in, held_in}
use Rattle.slot_store.specs.declared.places.Places.{Places}

module _ (places : Places) where
  -- of the two sides of a place one
  pub one_of : (place side : ℕ) (image : List ℕ) → side < 2
      → on_pair side (sides_in places image place) ≡ window (extent_in places (Side place side)) image
  one_of place zero image lt = refl
  one_of place (suc zero) image lt = refl
  one_of place (suc (suc side)) image lt = absurd (omega (arith, lt))

  -- an area holds its extent
  pub content_held : (area : Area) (image : List ℕ) → IsArea area
      → content_of area (held_in places image) ≡ window (extent_in places area) image
  unfolding held_in
  content_held (Transfer slot) image is = get_or-map-range_with_len (slot_in places image) 0 transfer_limit slot slot []
      is (omega arith)
  content_held (Side place side) image is =
      ap (on_pair side) (get_or-map-range_with_len (sides_in places image) 0 cluster_limit place place ([], []) is.0
      (omega arith)) ∙ one_of place side image is.1

  slots_held : (image : List ℕ) → length (held_in places image).slots ≡ transfer_limit
  unfolding held_in
  slots_held image = length-map-range_with_len (slot_in places image) 0 transfer_limit

  sides_held : (image : List ℕ) → length (held_in places image).sides ≡ cluster_limit
  unfolding held_in
  sides_held image = length-map-range_with_len (sides_in places image) 0 cluster_limit

  pub same_long : (area : Area) → (extent_in places area).len ≡ places.len
  same_long (Transfer slot) = refl
  same_long (Side place side) = refl

  pub held_fits : places.len ≡ package_limit → (image : List ℕ) → AreasFit (held_in places image)
  held_fits long image = record {
    slots = slots_held image;
    sides = sides_held image;
    contents = λ area is. omega (
      arith,
      ap length (content_held area image is),
      length-take (extent_in places area).len (drop (extent_in places area).at image),
      same_long area,
      long,
    );
  }
