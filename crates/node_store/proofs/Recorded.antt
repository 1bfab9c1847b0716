-- What an append leaves of a node's disk.
use Rattle.std.proofs.Common.{◌≡◌, inl, inr, ⊎_elim, ℕ, ◌+◌, ◌*◌, ◌≤◌, lit≤, List, sym, subst}
use Rattle.disk_core.specs.Moments.{LeavesOnly}
use Rattle.checkpoint.specs.Halves.{layout_2, pair_area}
use Rattle.checkpoint.specs.declared.layout.Layout.{Layout}
use Rattle.event_log.specs.Beside.{InHalves}
use Rattle.ucm_base.specs.Limits.{cluster_limit}
use Rattle.slot_store.specs.Extents.{HasExtents, held_in, node_places}
use Rattle.slot_store.proofs.Apart.{node_sound}
use Rattle.slot_store.proofs.Held.{torn_before}

-- two properties of the same moments
pub both : {D : Type 0} (moment : D → ℕ) (left_since : D → ℕ → List ℕ → Type 0) (old new : D) (P Q : List ℕ → Type 0)
    → LeavesOnly moment left_since old new P → LeavesOnly moment left_since old new Q
    → LeavesOnly moment left_since old new (λ c. P c × Q c)
both moment left_since old new P Q p q = record {
  later = p.later;
  each = λ c left. (p.each c left, q.each c left);
  earlier = λ t c le left. ⊎_elim (λ was. inl was)
      (λ a. ⊎_elim (λ was. inl was) (λ b. inr (a, b)) (q.earlier t c le left)) (p.earlier t c le left);
}

-- where only the halves have changed the areas are the same
abbrev pub SameAreas : List ℕ → List ℕ → Type 0
SameAreas x y = HasExtents node_places y × (held_in node_places y ≡ held_in node_places x)

pub beside_same : (layout : Layout) (x y : List ℕ) → layout ≡ layout_2 → InHalves layout x y
    → HasExtents node_places x → SameAreas x y
beside_same layout x y pair torn has = let t = subst (λ l. InHalves l x y) pair torn in (
  subst (λ l. node_places.sides + 2 * cluster_limit * node_places.len ≤ l) (sym t.size) has,
  torn_before node_places node_sound x y (pair_area layout_2).at (pair_area layout_2).len (lit≤ tt) t,
)
