-- What a campaign shows of its fold.
use Rattle.std.specs.Prelude.{ℕ, ◌-◌, Bool, true, false, ◌||◌, if◌then◌else◌, length, map, option_map, slice_get, slice_index_or, List, [], ◌∷◌, Option, Some, None}
use Rattle.campaign_core.specs.declared.events.Phase.{Phase}
use Rattle.campaign_core.specs.declared.events.Decision.{Decision}
use Rattle.campaign_core.specs.declared.events.Decision.TheVariants.{Commit, Abort}
use Rattle.campaign_core.specs.declared.fold.Current.{Current}
use Rattle.campaign_core.specs.declared.fold.Fold.{Fold}
use Rattle.campaign_core.specs.declared.views.CampaignState.{CampaignState}
use Rattle.campaign_core.specs.declared.views.CampaignView.{CampaignView}
use Rattle.campaign_core.specs.declared.views.CurrentView.{CurrentView}
use Rattle.campaign_core.specs.Campaign.{is_marked, has_no, all_yes, first_no, has_ended}

abbrev pub is_abort : Option Decision → Bool
is_abort None = false
is_abort (Some Commit) = false
is_abort (Some (Abort _)) = true

abbrev pub phase_state : Option Phase → CampaignState
phase_state None = CampaignState.Syncing
phase_state (Some Phase.Transferring) = CampaignState.SoftwarePackageTransferring
phase_state (Some Phase.Processing) = CampaignState.Processing
phase_state (Some Phase.Activating) = CampaignState.Activating

-- Cancelling where there is a mark, a vote of no or an abort
abbrev pub is_cancelling : Current → Bool
is_cancelling c = is_marked c || (has_no c || is_abort c.decision)

abbrev pub state_in : Option Current → CampaignState
state_in None = CampaignState.Idle
state_in (Some c) =
    if is_cancelling c
    then CampaignState.Cancelling
    else (if all_yes c then CampaignState.VehicleChecking else phase_state c.phase)

-- the state that a fold shows
abbrev pub state_of : Fold → CampaignState
state_of f = state_in f.current

abbrev pub state_code : CampaignState → ℕ
state_code CampaignState.Idle = 0
state_code CampaignState.Syncing = 1
state_code CampaignState.SoftwarePackageTransferring = 2
state_code CampaignState.Processing = 3
state_code CampaignState.Activating = 4
state_code CampaignState.VehicleChecking = 5
state_code CampaignState.Cancelling = 6

-- the states in the order of their codes
abbrev pub states_by_code : List CampaignState
states_by_code =
    CampaignState.Idle
    ∷ CampaignState.Syncing
    ∷ CampaignState.SoftwarePackageTransferring
    ∷ CampaignState.Processing
    ∷ CampaignState.Activating
    ∷ CampaignState.VehicleChecking
    ∷ CampaignState.Cancelling
    ∷ []

-- the state of a code; Idle where no state has it
abbrev pub state_at : ℕ → CampaignState
state_at code = slice_index_or states_by_code code CampaignState.Idle

abbrev pub current_view : Current → CurrentView
current_view c = record {
  campaign = c.campaign;
  named = c.named;
  phase = c.phase;
  cancel = c.cancel;
  restart = c.restart;
  first_no = first_no c;
  decision = c.decision;
  ended = record { flags = map has_ended c.ended };
}

-- the epoch, the newest earlier campaign, and the current one
abbrev pub view_of : Fold → CampaignView
view_of f = record {
  epoch = f.epoch;
  last = slice_get f.earlier (length f.earlier - 1);
  current = option_map current_view f.current;
}
