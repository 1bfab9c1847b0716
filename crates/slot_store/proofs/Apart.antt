-- Extents lie apart, and within the disk.
use Rattle.std.proofs.Common.{◌≡◌, ◌≢◌, ◌⊎◌, inl, inr, ⊎_elim, ℕ, ◌+◌, ◌*◌, ◌<◌, ◌≤◌, List, ap, arith, lit≤, refl, sym}
use Rattle.std.proofs.lemmas.Bool.{cases_lt, cases_eq}
use Rattle.std.proofs.Math.Nat.{mul-le-mul_left}
use Rattle.ucm_base.specs.Limits.{transfer_limit, cluster_limit, package_limit}
use Rattle.disk_area.specs.declared.area.Area.{Area as Window}
use Rattle.disk_area.specs.Windows.{IsInside}
use Rattle.transfer_blocks.specs.declared.area.Area.{Area}
use Rattle.transfer_blocks.specs.declared.area.Area.TheVariants.{Transfer, Side}
use Rattle.transfer_blocks.specs.Areas.{IsArea}
use Rattle.slot_store.specs.Extents.{node_places, extent_in, HasExtents}
use Rattle.slot_store.specs.declared.places.Places.{Places}

-- what the proofs need of places
pub record IsSound (places : Places) : Type 0 where
  pub apart : places.slots + transfer_limit * places.len ≤ places.sides
  pub long : places.len ≡ package_limit

pub node_sound : IsSound node_places
node_sound = record { apart = lit≤ tt; long = refl }

-- one window ends before the other begins
abbrev pub Apart : Window → Window → Type 0
Apart area other = (other.at + other.len ≤ area.at) ⊎ (area.at + area.len ≤ other.at)

-- of blocks of one length the lower one ends before the other begins
block_ends : (len j k : ℕ) → j < k → j * len + len ≤ k * len
block_ends len j k lt = let more : j + 1 ≤ k = omega (arith, lt) in omega (arith, mul-le-mul_left len more)

module _ (places : Places) (sound : IsSound places) where
  blocks_apart : (from j k : ℕ) → j ≢ k
      → Apart (record { at = from + j * places.len; len = places.len })
      (record { at = from + k * places.len; len = places.len })
  blocks_apart from j k differ = ⊎_elim
      (λ lt. inr (omega (arith, block_ends places.len j k lt)))
      (λ le. ⊎_elim
      (λ same. absurd (differ same))
      (λ n. inl (omega (arith, block_ends places.len k j (omega (arith, le, n)))))
      (cases_eq j k))
      (cases_lt j k)

  slot_before : (slot k : ℕ) → slot < transfer_limit
      → places.slots + slot * places.len + places.len ≤ places.sides + k * places.len
  slot_before slot k lt = omega (arith, block_ends places.len slot transfer_limit lt, sound.apart)

  sides_differ : (place side p s : ℕ) → side < 2 → s < 2 → Side p s ≢ Side place side
      → 2 * place + side ≢ 2 * p + s
  sides_differ place side p s lt less differ same =
      let places_same : p ≡ place = omega (arith, lt, less, same) in
      let sides_same : s ≡ side = omega (arith, places_same, same) in
      differ (λ i. Side (places_same i) (sides_same i))

  pub extents_apart : (area other : Area) → IsArea area → IsArea other → other ≢ area
      → Apart (extent_in places area) (extent_in places other)
  extents_apart (Transfer slot) (Transfer other) is other_is differ =
      blocks_apart places.slots slot other (λ same. differ (ap Transfer (sym same)))
  extents_apart (Transfer slot) (Side place side) is other_is differ =
      inr (slot_before slot (2 * place + side) is)
  extents_apart (Side place side) (Transfer other) is other_is differ =
      inl (slot_before other (2 * place + side) other_is)
  extents_apart (Side place side) (Side p s) is other_is differ =
      blocks_apart places.sides (2 * place + side) (2 * p + s) (sides_differ place side p s is.1 other_is.1 differ)

  pub extent_ends : (area : Area) → IsArea area
      → (extent_in places area).at + (extent_in places area).len ≤ places.sides + 2 * cluster_limit * places.len
  extent_ends (Transfer slot) is = omega (arith, slot_before slot 0 is)
  extent_ends (Side place side) is =
      let lt : 2 * place + side < 2 * cluster_limit = omega (arith, is.0, is.1) in
      omega (arith, block_ends places.len (2 * place + side) (2 * cluster_limit) lt)

  pub extent_inside : (area : Area) (image : List ℕ) → IsArea area → HasExtents places image
      → IsInside (extent_in places area) image
  extent_inside area image is has = omega (arith, extent_ends area is, has)

  pub extent_behind : (area : Area) → places.slots ≤ (extent_in places area).at
  extent_behind (Transfer slot) = omega arith
  extent_behind (Side place side) = omega (arith, sound.apart)
