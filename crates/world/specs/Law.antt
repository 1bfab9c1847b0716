-- The campaign law.
use Rattle.std.specs.Prelude.{◌≡◌, ◌≢◌, ℕ, ◌≤◌, List, [], ◌∷◌, ◌++◌, flat_map, option_map, Some}
use Rattle.ucm_base.specs.Parts.{Bytes}
use Rattle.pm_types.specs.declared.clusters.Cluster.{Cluster}
use Rattle.ucm_base.specs.declared.parts.Part.{Part}
use Rattle.pm_types.specs.Transfers.{parts_read}
use Rattle.pm_types.specs.Histories.{Reading}
use Rattle.campaign_core.specs.declared.events.CampaignResult.{CampaignResult}
use Rattle.campaign_core.specs.declared.events.CampaignResult.TheVariants.{Successful, Failed, Cancelled}
use Rattle.campaign_core.specs.declared.events.MasterEvent.{MasterEvent}
use Rattle.campaign_core.specs.declared.events.MasterEvent.TheVariants.{Enter}
use Rattle.campaign_core.specs.Campaign.{campaign}
use Rattle.node_laws.specs.Fit.{IsReading, IsInstalled}
use Rattle.world.specs.Sends.{Packages}
use Rattle.world.specs.Spans.{IsNew, IsOld}
use Rattle.world.specs.World.{World, NodeWorld, Event, opened, Makes}

-- the list has the Enter of campaign k with this result
pub record IsEntered (k : ℕ) (result : CampaignResult) (list : List MasterEvent) : Type 0 where
  pub before : List MasterEvent
  pub after : List MasterEvent
  pub there : list ≡ before ++ Enter result ∷ after
  pub of : option_map (λ c. c.campaign) (campaign before).current ≡ Some k

-- the parts of some packages, in order
abbrev pub parts_in : Reading → List (List ℕ) → List (Part Bytes)
parts_in read packages = flat_map (λ bytes. parts_read (read bytes)) packages

-- a node is new after a successful campaign, and old after a failed or cancelled one
abbrev pub IsLeft : Reading → CampaignResult → ℕ → List (List ℕ) → NodeWorld → Type 0
IsLeft read Successful k packages x = IsNew read k (parts_in read packages) x.opening x.history
IsLeft read Failed k packages x = IsOld read k x.opening x.history
IsLeft read Cancelled k packages x = IsOld read k x.opening x.history

-- over every list of events, at every campaign that was entered and every node that its steps name
abbrev pub CampaignLaw : Type 0
CampaignLaw =
    (read : Reading) → IsReading read
    → (packages : Packages) (numbers : List ℕ) (clusters : ℕ → List (Cluster Bytes))
    → ((n : ℕ) → IsInstalled (clusters n))
    → (events : List Event) (w : World) → Makes read packages numbers (opened clusters) events w
    → (k : ℕ) (result : CampaignResult) → IsEntered k result w.list
    → (n : ℕ) → 1 ≤ n → n ≤ 8 → packages k n ≢ []
    → IsLeft read result k (packages k n) (w.node n)
