-- A state and its code.
use Rattle.std.specs.Prelude.{◌≡◌, refl}
use Rattle.campaign_core.specs.declared.views.CampaignState.{CampaignState}
use Rattle.campaign_core.specs.Views.{state_at, state_code}

-- the state of a state's code is that state
pub state_of_its_code : (s : CampaignState) → state_at (state_code s) ≡ s
state_of_its_code CampaignState.Idle = refl
state_of_its_code CampaignState.Syncing = refl
state_of_its_code CampaignState.SoftwarePackageTransferring = refl
state_of_its_code CampaignState.Processing = refl
state_of_its_code CampaignState.Activating = refl
state_of_its_code CampaignState.VehicleChecking = refl
state_of_its_code CampaignState.Cancelling = refl
