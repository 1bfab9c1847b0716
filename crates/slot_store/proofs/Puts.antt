-- The moments of a put: room is made, then the bytes are written and synced.
use Rattle.std.proofs.Common.{ℕ, List}
use Rattle.disk_core.specs.Images.{EachImage, SameImages, From}
use Rattle.disk_core.specs.Moments.{Elapses, LeavesOnly}
use Rattle.disk_core.proofs.Moments.{started, goes_on, joined}
use Rattle.transfer_blocks.specs.declared.area.Area.{Area}
use Rattle.transfer_blocks.specs.Steps.{End, puts}
use Rattle.slot_store.specs.Leaves.{Tears}
use Rattle.slot_store.specs.declared.places.Places.{Places}
use Rattle.slot_store.proofs.Runs.{torn_nothing}

module _ {D : Type 0} (moment : D → ℕ) (left_since : D → ℕ → List ℕ → Type 0) (images : D → List ℕ → Type 0)
    (places : Places) (area : Area) (at : ℕ) (bytes : List ℕ) (end : End) (old mid new : D)
    (here : EachImage (left_since old (moment old)) (images old)) (same : SameImages (images old) (images mid))
    (time : Elapses (moment old) (moment mid) (left_since old) (left_since mid) (images mid))
    (more : LeavesOnly moment left_since mid new (From (images mid) (Tears places (puts area at bytes end)))) where
  pub put_moments : LeavesOnly moment left_since old new (From (images old) (Tears places (puts area at bytes end)))
  put_moments =
      let P = From (images old) (Tears places (puts area at bytes end)) in
      let stay : EachImage (images old) P = λ c was. (c, was, torn_nothing places (puts area at bytes end) c) in
      joined moment left_since old mid new P _
      (goes_on moment left_since old old mid P (images mid)
      (started moment left_since old P (λ c left. stay c (here c left))) time (λ c now. stay c (same.none_new c now)))
      more (λ c from. (from.0, same.none_new from.0 from.1, from.2))

  pub put_after : ((c : List ℕ) → images new c → left_since new (moment mid) c)
      → EachImage (images new) (From (images old) (Tears places (puts area at bytes end)))
  put_after counts c now = let from = more.each c (counts c now) in (from.0, same.none_new from.0 from.1, from.2)
