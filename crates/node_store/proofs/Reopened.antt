-- What the disk of a closed node stands for when it is opened again.
use Rattle.std.specs.Prelude.{◌≡◌, ◌⊎◌, ℕ, ◌+◌, ◌<◌, ◌≤◌, List, Option, Some, None}
use Rattle.std.proofs.Common.{refl, sym, ap, subst, ◌∙◌, inl, inr, arith}
use Rattle.disk_core.specs.Images.{EachImage, Within}
use Rattle.disk_core.specs.Moments.{Elapses, LeavesOnly}
use Rattle.disk_core.proofs.Moments.{goes_on, joined, started}
use Rattle.checkpoint.specs.Halves.{layout_2}
use Rattle.event_log.specs.Meaning.{current, meaning, means_by}
use Rattle.event_codec.specs.DecidingStates.{state_told}
use Rattle.pm_types.specs.NodeState.{NodeState}
use Rattle.pm_types.specs.Stored.{State}
use Rattle.node_recovery.specs.Images.{after_bytes, stored_in}
use Rattle.node_store.specs.Serving.{Serves, ServesEither, node_on}

-- what serves for a node is formatted
pub is-formatted : (n : NodeState) (image : List ℕ) → Serves n image → current state_told layout_2 image ≡ None → ⊥
is-formatted n image serves none =
    cc (sym (ap (λ o. means_by state_told after_bytes o image) none) ∙ serves.1.log.means)

-- a restart, and then a run that writes nothing
pub restarted : {D : Type 0} (moment : D → ℕ) (left_since : D → ℕ → List ℕ → Type 0) (images : D → List ℕ → Type 0)
    (old mid new : D) → EachImage (left_since old (moment old)) (images old)
    → Elapses (moment old) (moment mid) (left_since old) (left_since mid) (images mid) → Within (images old) (images
    mid)
    → LeavesOnly moment left_since mid new (images mid) → LeavesOnly moment left_since old new (images old)
restarted moment left_since images old mid new now time within more =
    joined moment left_since old mid new (images old) (images mid)
    (goes_on moment left_since old old mid (images old) (images mid) (started moment left_since old (images old)
    now) time
    within) more within

-- the disk stands for one of two nodes; which one, the number of entries tells
pub which-of : (n m : NodeState) (s : State) (image : List ℕ) → stored_in image ≡ Some s
    → ((k : NodeState) → Serves k image → node_on s image ≡ k) → ServesEither n m image
    → (m ≡ n) ⊎ (m.entries ≡ n.entries + 1)
    → (n.entries < s.entries → node_on s image ≡ m) × (s.entries ≤ n.entries → node_on s image ≡ n)
which-of n m s image found is (inl serves) (inl same) = ((λ more. is n serves ∙ sym same), (λ less. is n serves))
which-of n m s image found is (inr serves) (inl same) = ((λ more. is m serves), (λ less. is m serves ∙ same))
which-of n m s image found is (inl serves) (inr one) =
    let count : s.entries ≡ n.entries = ap (λ (k : NodeState). k.entries) (is n serves) in
    ((λ more. absurd (omega (arith, more, count))), (λ less. is n serves))
which-of n m s image found is (inr serves) (inr one) =
    let count : s.entries ≡ m.entries = ap (λ (k : NodeState). k.entries) (is m serves) in
    ((λ more. is m serves), (λ less. absurd (omega (arith, less, count, one))))
