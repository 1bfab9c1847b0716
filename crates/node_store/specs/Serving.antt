-- What an image of a node's disk stands for.
use Rattle.std.specs.Prelude.{◌≡◌, ◌⊎◌, ℕ, ◌+◌, List, Some}
use Rattle.checkpoint.specs.Halves.{layout_2}
use Rattle.event_log.specs.Holds.{StandsFor}
use Rattle.event_log.specs.declared.revive.Revived.{Revived}
use Rattle.event_log.specs.declared.revive.Revived.TheVariants.{Stood, Lost}
use Rattle.ucm_base.specs.declared.ids.CallNo.{CallNo}
use Rattle.pm_types.specs.declared.calls.Call.{Call}
use Rattle.pm_types.specs.declared.replies.Reached.{Reached}
use Rattle.pm_types.specs.Histories.{verdict_for}
use Rattle.pm_types.specs.NodeState.{NodeState}
use Rattle.pm_types.specs.Steps.{step}
use Rattle.pm_types.specs.Stored.{State, meaning}
use Rattle.event_codec.specs.DecidingStates.{state_told}
use Rattle.slot_store.specs.Extents.{HasExtents, held_in, node_places}
use Rattle.node_core.specs.Core.{IsSound, holding}
use Rattle.node_core.specs.Packages.{package_reading}
use Rattle.node_recovery.specs.Images.{after_bytes}

-- the node that a stored state is over the areas of an image
abbrev pub node_on : State → List ℕ → NodeState
node_on s image = meaning package_reading (held_in node_places image) s

-- over the areas of the image the stored state is this node, and sound
pub record HoldsNode (s : State) (n : NodeState) (image : List ℕ) : Type 0 where
  pub extents : HasExtents node_places image
  pub node : node_on s image ≡ n
  pub sound : IsSound (holding (held_in node_places image) s)

-- a node can be opened from the image with this stored state, and is this node
pub record ServesBy (s : State) (n : NodeState) (image : List ℕ) : Type 0 where
  pub log : StandsFor state_told after_bytes layout_2 (Some s) image
  pub node : HoldsNode s n image

-- a node can be opened from the image, and is this node
abbrev pub Serves : NodeState → List ℕ → Type 0
Serves n image = (s : State) × ServesBy s n image

-- it is one of the two
abbrev pub ServesEither : NodeState → NodeState → List ℕ → Type 0
ServesEither before after image = Serves before image ⊎ Serves after image

-- it is some node
abbrev pub ServesSome : List ℕ → Type 0
ServesSome image = (n : NodeState) × Serves n image

-- an event made one entry, or left the node as it was
abbrev pub MakesOne : NodeState → NodeState → Type 0
MakesOne n m = (m ≡ n) ⊎ (m.entries ≡ n.entries + 1)

-- the node that an event ended in, of the one before it and the one after it
abbrev pub ended_in : Revived → NodeState → NodeState → NodeState
ended_in Stood n m = m
ended_in Lost n m = n

-- what a numbered call makes of a node, and what it gives
abbrev pub stepped : NodeState → ℕ → CallNo → Call → NodeState × Reached
stepped n client call_no call = step n client call_no call (verdict_for package_reading n client call)
