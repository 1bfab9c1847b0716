-- What a campaign left: the list is allowed, begins with the script's nodes, and its result holds of every named node.
use Rattle.std.specs.Prelude.{◌≡◌, ℕ, ⊤, List, [], ◌∷◌, Option, Some, None}
use Rattle.pm_types.specs.declared.history.Entry.{Entry}
use Rattle.pm_types.specs.NodeState.{NodeState}
use Rattle.pm_types.specs.Histories.{Reading}
use Rattle.campaign_core.specs.declared.events.CampaignResult.{CampaignResult}
use Rattle.campaign_core.specs.declared.events.CampaignResult.TheVariants.{Successful, Failed, Cancelled}
use Rattle.campaign_core.specs.declared.events.MasterEvent.{MasterEvent}
use Rattle.campaign_core.specs.declared.events.MasterEvent.TheVariants.{Begin, Enter}
use Rattle.world.specs.Evidence.{NamesOf}
use Rattle.world.specs.Law.{parts_in}
use Rattle.world.specs.Spans.{IsNew, IsOld}
use Rattle.run_claim.specs.Script.{Script, packages_of}

-- a result, unless a later one is there
abbrev pub later_or : Option CampaignResult → CampaignResult → CampaignResult
later_or None r = r
later_or (Some later) r = later

-- the result of the last Enter; none where the campaign is open
abbrev pub result_of : List MasterEvent → Option CampaignResult
result_of [] = None
result_of (Enter r ∷ es) = Some (later_or (result_of es) r)
result_of (_ ∷ es) = result_of es

-- a Begin has the script's number and exactly the nodes that its steps name
abbrev pub BeginsSo : Script → MasterEvent → Type 0
BeginsSo s (Begin k named) = (k ≡ s.campaign) × NamesOf (λ number n. packages_of s n) k named
BeginsSo s _ = ⊤

-- a node is new after Successful, and old after Failed or Cancelled; of an open campaign nothing is said
abbrev pub IsLeftSo : Reading → Option CampaignResult → ℕ → List (List ℕ) → NodeState → List Entry → Type 0
IsLeftSo read None k packages opening history = ⊤
IsLeftSo read (Some Successful) k packages opening history = IsNew read k (parts_in read packages) opening history
IsLeftSo read (Some Failed) k packages opening history = IsOld read k opening history
IsLeftSo read (Some Cancelled) k packages opening history = IsOld read k opening history
