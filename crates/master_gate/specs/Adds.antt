-- What an add and a look do to the list and to what is in doubt.
use Rattle.std.specs.Prelude.{◌≡◌, ◌⊎◌, ℕ, ◌≤◌, List, [], ◌∷◌, ◌++◌, length, Option, Some, None, IsSome}
use Rattle.turn_gate.specs.Mine.{Settles}
use Rattle.campaign_core.specs.declared.events.CampaignRefusal.{CampaignRefusal}
use Rattle.campaign_core.specs.declared.events.MasterEvent.{MasterEvent}
use Rattle.campaign_core.specs.declared.fold.Fold.{Fold}
use Rattle.campaign_core.specs.declared.views.CampaignView.{CampaignView}
use Rattle.campaign_core.specs.Campaign.{campaign_from, refusal_of}
use Rattle.campaign_core.specs.Views.{view_of}
use Rattle.decision_log.specs.Answers.{IsRise}
use Rattle.decision_log.specs.declared.answers.AddAnswer.{AddAnswer}
use Rattle.decision_log.specs.declared.answers.AddAnswer.TheVariants.{Added, Refused, NoReply, OutOfMemory}
use Rattle.master_gate.specs.declared.answers.LookAnswer.{LookAnswer}
use Rattle.master_gate.specs.declared.answers.LookAnswer.TheVariants.{At, NoReply as NoLook, OutOfMemory as NoMemory}

-- the faults that an answer carries
abbrev pub rise_of : AddAnswer → ℕ
rise_of (NoReply faults) = faults
rise_of Added = 0
rise_of (Refused r) = 0
rise_of OutOfMemory = 0

abbrev pub rise_of_look : LookAnswer → ℕ
rise_of_look (NoLook faults) = faults
rise_of_look (At place view) = 0
rise_of_look NoMemory = 0

-- a look without a reply carries how much the count of faults rose
abbrev pub CarriesRise : LookAnswer → ℕ → ℕ → Type 0
CarriesRise (NoLook faults) before now = IsRise before now faults
CarriesRise _ before now = Unit {0}

-- a list of events, and one that may stand behind it or not
pub record Listing : Type 0 where
  pub events : List MasterEvent
  pub doubt : Option MasterEvent

abbrev pub listing : List MasterEvent → Option MasterEvent → Listing
listing events doubt = record { events = events; doubt = doubt }

-- the event ends the list, behind what was in doubt, where that stood
pub record IsAdded (o : Fold) (e : MasterEvent) (old new : Listing) : Type 0 where
  pub before : List MasterEvent
  pub settled : Settles old.doubt old.events before
  pub allowed : refusal_of (campaign_from o before) e ≡ None
  pub added : new ≡ listing (before ++ e ∷ []) None

-- what was in doubt is settled, and the table refuses the event after the list
pub record IsRefused (o : Fold) (e : MasterEvent) (r : CampaignRefusal) (old new : Listing) : Type 0 where
  pub settled : Settles old.doubt old.events new.events
  pub refused : refusal_of (campaign_from o new.events) e ≡ Some r
  pub no_doubt : new.doubt ≡ None

-- what was in doubt is settled, and the event is in doubt now, which the table allows after the list
pub record IsDoubted (o : Fold) (e : MasterEvent) (old new : Listing) : Type 0 where
  pub settled : Settles old.doubt old.events new.events
  pub allowed : refusal_of (campaign_from o new.events) e ≡ None
  pub in_doubt : new.doubt ≡ Some e

-- what was in doubt is settled, and the list shows this at its end
pub record IsShown (o : Fold) (place : ℕ) (view : CampaignView) (old new : Listing) : Type 0 where
  pub settled : Settles old.doubt old.events new.events
  pub no_doubt : new.doubt ≡ None
  pub place_is : place ≡ length new.events
  pub view_is : view ≡ view_of (campaign_from o new.events)

-- something is in doubt, and all is as it was
abbrev pub StaysInDoubt : Listing → Listing → Type 0
StaysInDoubt old new = IsSome old.doubt × (new ≡ old)

-- all is as it was, or what was in doubt is settled
abbrev pub StaysOrSettles : Listing → Listing → Type 0
StaysOrSettles old new = (new ≡ old) ⊎ (Settles old.doubt old.events new.events × (new.doubt ≡ None))

-- an add of an event to a list that goes on from a fold
abbrev pub AddsTo : Fold → MasterEvent → AddAnswer → Listing → Listing → Type 0
AddsTo o e Added old new = IsAdded o e old new
AddsTo o e (Refused r) old new = IsRefused o e r old new
AddsTo o e (NoReply faults) old new = (1 ≤ faults) × (StaysInDoubt old new ⊎ IsDoubted o e old new)
AddsTo o e OutOfMemory old new = StaysOrSettles old new

-- a look at a list that goes on from a fold; it takes memory only where something is in doubt
abbrev pub LooksAt : Fold → LookAnswer → Listing → Listing → Type 0
LooksAt o (At place view) old new = IsShown o place view old new
LooksAt o (NoLook faults) old new = (1 ≤ faults) × StaysInDoubt old new
LooksAt o NoMemory old new = StaysInDoubt old new
