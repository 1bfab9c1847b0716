-- What is known of a master's list and its disk, and what an image of the disk stands for.
use Rattle.std.specs.Prelude.{◌≡◌, ◌⊎◌, ℕ, List, Option, Some, None}
use Rattle.disk_core.specs.Images.{EachImage, Only}
use Rattle.checkpoint.specs.Halves.{layout_of}
use Rattle.event_log.specs.Holds.{Holds, StandsFor}
use Rattle.event_log.specs.Doubts.{InDoubt, of_event}
use Rattle.event_log.specs.declared.log.Log.{Log}
use Rattle.campaign_core.specs.declared.events.MasterEvent.{MasterEvent}
use Rattle.campaign_core.specs.declared.fold.Fold.{Fold}
use Rattle.campaign_core.specs.Campaign.{after_event, refusal_of}
use Rattle.campaign_core.specs.Standing.{IsWithin}
use Rattle.event_codec.specs.Master.{EventFits, event_spelled}
use Rattle.event_codec.specs.DecidingMaster.{fold_of}
use Rattle.decision_log.specs.Folds.{after_record}

-- by halves 0 and 1 a list can be opened from the image, and its fold is this one
abbrev pub IsOf : Fold → List ℕ → Type 0
IsOf fold image = StandsFor fold_of after_record (layout_of 0) (Some fold) image

-- the fold before an event, or after it, where the table allows it
abbrev pub IsBeforeOrAfter : Fold → MasterEvent → List ℕ → Type 0
IsBeforeOrAfter fold event image =
    IsOf fold image ⊎ ((refusal_of fold event ≡ None) × IsOf (after_event fold event) image)

-- the log goes on from each image, with this fold; or an event that is allowed is in doubt behind it
abbrev pub Stand : Log → Fold → Option MasterEvent → List ℕ → (List ℕ → Type 0) → Type 0
Stand log fold None seen images = EachImage images (Holds fold_of after_record log (Some fold)) × Only seen images
Stand log fold (Some e) seen images =
    (refusal_of fold e ≡ None) × EventFits e
    × EachImage images (InDoubt fold_of after_record log (of_event after_record fold (event_spelled e)))

-- what is known of a list between two calls
pub record IsKnown (log : Log) (fold : Fold) (pending : Option MasterEvent) (seen : List ℕ) (images : List ℕ → Type 0)
    : Type 0 where
  pub pair : layout_of log.half ≡ layout_of 0
  pub within : IsWithin fold
  pub stand : Stand log fold pending seen images
