-- What is known of an open node and its disk between two calls.
use Rattle.std.specs.Prelude.{◌≡◌, ℕ, List, IfSome, Some, None}
use Rattle.disk_core.specs.Images.{EachImage, Only}
use Rattle.checkpoint.specs.Halves.{half_of, layout_2, layout_of}
use Rattle.event_log.specs.Holds.{Holds}
use Rattle.event_log.specs.declared.log.Log.{Log}
use Rattle.event_codec.specs.DecidingStates.{state_told}
use Rattle.slot_store.specs.Extents.{HasExtents, held_in, node_places}
use Rattle.node_core.specs.Core.{IsSound, Readied, holding, over}
use Rattle.node_recovery.specs.Images.{CanRecover, after_bytes, stored_in}

-- the log goes on from the one image that a crash leaves, with the state in memory, which is sound over its areas
pub record IsOpen (log : Log) (r : Readied) (seen : List ℕ) (images : List ℕ → Type 0) : Type 0 where
  pub pair : layout_of log.half ≡ layout_2
  pub extents : HasExtents node_places seen
  pub sound : IsSound (over (held_in node_places seen) r)
  pub holds : EachImage images (Holds state_told after_bytes log (Some r.state))
  pub durable : Only seen images

-- half 3 reads as nothing, so that a node can be formatted in half 2
abbrev pub IsBlank : List ℕ → Type 0
IsBlank image = half_of 3 image ≡ None

-- a node can be opened from the image: the state that it stands for, if any, is sound over its areas
pub record CanServe (image : List ℕ) : Type 0 where
  pub recovers : CanRecover image
  pub extents : HasExtents node_places image
  pub sound : IfSome (stored_in image) (λ s. IsSound (holding (held_in node_places image) s))
