-- What the records behind a fold make of it.
use Rattle.std.specs.Prelude.{ℕ, List, Option, Some, None}
use Rattle.campaign_core.specs.declared.events.CampaignRefusal.{CampaignRefusal}
use Rattle.campaign_core.specs.declared.events.MasterEvent.{MasterEvent}
use Rattle.campaign_core.specs.declared.fold.Fold.{Fold}
use Rattle.campaign_core.specs.Campaign.{after_event, refusal_of}
use Rattle.event_codec.specs.DecidingMaster.{event_of}

-- what follows, unless it is refused
abbrev pub unless_refused : Option CampaignRefusal → Fold → Option Fold
unless_refused None f = Some f
unless_refused (Some refusal) f = None

-- the fold after an event; none where the table refuses it
abbrev pub after_allowed : Fold → MasterEvent → Option Fold
after_allowed f e = unless_refused (refusal_of f e) (after_event f e)

abbrev pub after_one : Fold → Option MasterEvent → Option Fold
after_one f None = None
after_one f (Some e) = after_allowed f e

-- the fold after the event that a record spells; none where it spells none, or one that the table refuses
abbrev pub after_record : Fold → List ℕ → Option Fold
after_record f record_bytes = after_one f (event_of record_bytes)
