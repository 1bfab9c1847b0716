-- What calls of the disk that write nothing leave of an open node.
use Rattle.std.proofs.Common.{◌≡◌, ℕ, List, sym, ◌∙◌, ap, subst}
use Rattle.disk_core.specs.Images.{SameImages}
use Rattle.disk_core.specs.Moments.{Elapses, LeavesOnly}
use Rattle.disk_core.proofs.Moments.{goes_on, started}
use Rattle.event_log.specs.declared.log.Log.{Log}
use Rattle.pm_types.specs.Stored.{Areas}
use Rattle.slot_store.specs.Extents.{HasExtents, held_in, node_places}
use Rattle.node_core.specs.Core.{IsSound, Readied, holding, over}
use Rattle.node_store.specs.Open.{IsOpen}
use Rattle.node_store.specs.Serving.{Serves, node_on}
use Rattle.node_store.proofs.Entered.{open_serves}

-- a state is sound whatever is ready
pub plain : (areas : Areas) (r : Readied) → IsSound (over areas r) → IsSound (holding areas r.state)
plain areas r sound = record { fit = sound.fit; order = sound.order; copied = sound.copied }

module _ {D : Type 0} (seen : D → List ℕ) (images : D → List ℕ → Type 0) (moment : D → ℕ)
    (left_since : D → ℕ → List ℕ → Type 0)
    (only_now : (d : D) (c : List ℕ) → left_since d (moment d) c → images d c)
    (log : Log) (r : Readied) (old new : D) (k : IsOpen log r (seen old) (images old)) (reads : seen new ≡ seen old)
    (same : SameImages (images old) (images new)) where
  pub untouched_open : IsOpen log r (seen new) (images new)
  untouched_open = record {
    pair = k.pair;
    extents = subst (HasExtents node_places) (sym reads) k.extents;
    sound = subst (λ image. IsSound (over (held_in node_places image) r)) (sym reads) k.sound;
    holds = λ c now. k.holds c (same.none_new c now);
    durable = λ c now. k.durable c (same.none_new c now) ∙ sym reads;
  }

  pub untouched_serves : Elapses (moment old) (moment new) (left_since old) (left_since new) (images new)
      → LeavesOnly moment left_since old new (Serves (node_on r.state (seen old)))
  untouched_serves time =
      let serves = open_serves log r (seen old) (images old) k in
      goes_on moment left_since old old new (Serves (node_on r.state (seen old))) (images new)
      (started moment left_since old (Serves (node_on r.state (seen old))) (λ c left. serves c (only_now old c left)))
      time (λ c now. serves c (same.none_new c now))
