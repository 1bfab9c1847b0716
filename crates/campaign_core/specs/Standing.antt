-- A campaign as its callers see it.
use Rattle.std.specs.Prelude.{◌≡◌, ℕ, ◌+◌, ◌≤◌, Bool, true, false, length, Option, Some, None}
use Rattle.ucm_base.specs.Limits.{campaign_limit}
use Rattle.campaign_core.specs.declared.fold.Current.{Current}
use Rattle.campaign_core.specs.declared.events.MasterEvent.{MasterEvent}
use Rattle.campaign_core.specs.declared.events.MasterEvent.TheVariants.{Start, Begin, Enter}
use Rattle.campaign_core.specs.declared.fold.Fold.{Fold}

-- the fold, and whether there is memory for the next event
pub record Standing : Type 0 where
  pub fold : Fold
  pub ready : Bool

-- whether an event is about the current campaign
abbrev pub is_of_current : MasterEvent → Bool
is_of_current (Start _) = false
is_of_current (Begin _ _) = false
is_of_current _ = true

-- the event needs a current campaign, and there is none
abbrev pub FindsNone : Fold → MasterEvent → Type 0
FindsNone f e = (is_of_current e ≡ true) × (f.current ≡ None)

-- whether an event ends the current campaign
abbrev pub is_entry : MasterEvent → Bool
is_entry (Enter _) = true
is_entry _ = false

-- whether a campaign is current, as a number
abbrev pub running : Option Current → ℕ
running None = 0
running (Some c) = 1

-- the earlier campaigns and a current one are no more than a master keeps
abbrev pub IsWithin : Fold → Type 0
IsWithin f = length f.earlier + running f.current ≤ campaign_limit
