-- What is found on a disk.
use Rattle.std.specs.Prelude.{◌≡◌, ℕ, List, Option, Some, None}
use Rattle.checkpoint.specs.Halves.{layout_of}
use Rattle.checkpoint.specs.declared.layout.Layout.{Layout}
use Rattle.event_log.specs.Meaning.{events_of, state_of}
use Rattle.event_log.specs.Holds.{Stands}
use Rattle.event_log.specs.declared.log.Log.{Log}
use Rattle.event_log.specs.declared.find.Found.{Found}

-- the log of this pair goes on from this image, with this text and these records
pub record IsFound {S : Type 0} (start : List ℕ → Option S) (layout : Layout) (log : Log) (text : List ℕ)
    (records : List (List ℕ)) (image : List ℕ) : Type 0 where
  pub pair : layout_of log.half ≡ layout
  pub stands : Stands start log text image
  pub list : records ≡ events_of log.half image

-- the state that was found, if any
abbrev pub found_state : {S : Type 0} → (List ℕ → Option S) → (S → List ℕ → Option S) → Option Found → Option S
found_state start step None = None
found_state start step (Some found) = state_of start step found.text.items found.records
