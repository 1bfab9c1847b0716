-- What the list in memory has to do with the log, its disk, and the making of the gate.
use Rattle.std.specs.Prelude.{◌≡◌, ◌⊎◌, ℕ, ◌+◌, List, length, Option, Some, None}
use mathlib.Core.List.{IsPrefix}
use Rattle.turn_gate.specs.Parts.{at_most_last}
use Rattle.turn_gate.specs.Views.{account}
use Rattle.turn_gate.specs.declared.view.Account.{Account}
use Rattle.disk_core.specs.Moments.{LeavesOnly}
use Rattle.disk_core.specs.declared.disk.Disk.{Ghosts}
use Rattle.campaign_core.specs.declared.events.MasterEvent.{MasterEvent}
use Rattle.campaign_core.specs.declared.fold.Fold.{Fold}
use Rattle.campaign_core.specs.Campaign.{campaign_from, IsLegalFrom}
use Rattle.campaign_core.specs.Views.{state_code, state_of}
use Rattle.decision_log.specs.Known.{IsBeforeOrAfter, IsKnown, IsOf}
use Rattle.decision_log.specs.declared.list.MasterLog.{MasterLog}
use Rattle.master_gate.specs.Adds.{Listing, listing}
use Rattle.master_gate.specs.declared.opening.Opening.{Opening}
use Rattle.master_gate.specs.declared.shared.SharedLog.{SharedLog}

-- each event of the master tells the one part
abbrev pub tells : MasterEvent → Option ℕ
tells e = Some 0

abbrev pub account_of : {D : Type 0} {d : Ghosts D} → (D → ℕ) → SharedLog D d → Account MasterEvent
account_of fault_count s = account s.events.items s.log.pending (fault_count s.log.disk)

-- the list, and what is pending
abbrev pub listing_in : {D : Type 0} {d : Ghosts D} → SharedLog D d → Listing
listing_in s = listing s.events.items s.log.pending

abbrev pub opening : {D : Type 0} → MasterLog D → Opening D
opening log = record { fold = log.campaign.fold; count = log.count; disk = log.disk }

-- the fold of the list
abbrev pub fold_after : {D : Type 0} → Opening D → List MasterEvent → Fold
fold_after o events = campaign_from o.fold events

-- the code of the state that the list shows
abbrev pub state_code_after : {D : Type 0} → Opening D → List MasterEvent → ℕ
state_code_after o events = state_code (state_of (fold_after o events))

-- the image stands for the fold, or, where an event is pending, for this or for the fold with the event
abbrev pub IsImageOf : Fold → Option MasterEvent → List ℕ → Type 0
IsImageOf fold None image = IsOf fold image
IsImageOf fold (Some e) image = IsBeforeOrAfter fold e image

-- the image stands for the fold of a beginning of the list, or of one with an event that was pending behind it
pub record WasLeft (o : Fold) (events : List MasterEvent) (image : List ℕ) : Type 0 where
  pub beginning : List MasterEvent
  pub begins : IsPrefix beginning events
  pub event : MasterEvent
  pub stands : IsBeforeOrAfter (campaign_from o beginning) event image

-- what is known of the log between two calls
abbrev pub Knows : {D : Type 0} → (D → List ℕ) → (D → List ℕ → Type 0) → MasterLog D → Type 0
Knows seen images log = IsKnown log.log log.campaign.fold log.pending (seen log.disk) (images log.disk)

module _ {D : Type 0} (moment : D → ℕ) (left_since : D → ℕ → List ℕ → Type 0) (seen : D → List ℕ)
    (images : D → List ℕ → Type 0) where
  -- the log's fold and count are those of a legal list which goes on from the opening, and so was each image since then
  pub record StandsFor (o : Opening D) (log : MasterLog D) (events : List MasterEvent) : Type 0 where
    pub fold_is : log.campaign.fold ≡ fold_after o events
    pub legal : IsLegalFrom o.fold events
    pub count_is : log.count ≡ at_most_last (o.count + length events)
    pub known : Knows seen images log
    pub moments : LeavesOnly moment left_since o.disk log.disk (WasLeft o.fold events)

-- nothing is pending at the end, or what was in doubt
abbrev pub MayLeave : Option MasterEvent → Option MasterEvent → Type 0
MayLeave doubt pending = (pending ≡ None) ⊎ (pending ≡ doubt)
