-- What is printed of the master's list.
use Rattle.std.specs.Prelude.{ℕ, List, ◌++◌, codes}
use Rattle.std.specs.Fmt.{decimal}
use Rattle.ucm_base.specs.Printed.{nodes_text}
use Rattle.ucm_base.specs.Text.{call_no_text}
use Rattle.pm_types.specs.Text.{outcome_text, refusal_text}
use Rattle.pm_types.specs.Refusals.{refusal_code}
use Rattle.campaign_core.specs.declared.events.Phase.{Phase}
use Rattle.campaign_core.specs.declared.events.Vote.{Vote}
use Rattle.campaign_core.specs.declared.events.Cause.{Cause}
use Rattle.campaign_core.specs.declared.events.Decision.{Decision}
use Rattle.campaign_core.specs.declared.events.Decision.TheVariants.{Commit, Abort}
use Rattle.campaign_core.specs.declared.events.CampaignResult.{CampaignResult}
use Rattle.campaign_core.specs.declared.events.CampaignResult.TheVariants.{Successful, Failed, Cancelled}
use Rattle.campaign_core.specs.declared.events.CampaignRefusal.{CampaignRefusal}
use Rattle.campaign_core.specs.declared.events.CampaignRefusal.TheVariants.{OperationNotPermitted, NoCampaign}
use Rattle.campaign_core.specs.declared.events.MasterEvent.{MasterEvent}
use Rattle.campaign_core.specs.declared.events.MasterEvent.TheVariants.{Start, Begin, PhaseTo, VoteOf, CancelAsked, Decide, EndedAt, Enter}

-- the phase's name in the service of the campaign's master
abbrev pub phase_text : Phase → List ℕ
phase_text Phase.Transferring = codes "SoftwarePackageTransferring"
phase_text Phase.Processing = codes "Processing"
phase_text Phase.Activating = codes "Activating"

-- Yes, or No and why
abbrev pub vote_text : Vote → List ℕ
vote_text Vote.Yes = codes "Yes"
vote_text (Vote.Refused at refusal) =
    codes "No Refused " ++ call_no_text at ++ codes " " ++ decimal (refusal_code refusal) ++ codes " "
    ++ refusal_text refusal
vote_text Vote.RolledBack = codes "No RolledBack"
vote_text (Vote.Unreached losses faults) = codes "No Unreached " ++ decimal losses ++ codes " " ++ decimal faults

abbrev pub cause_text : Cause → List ℕ
cause_text Cause.Cancel = codes "Cancel"
cause_text (Cause.Vote node) = codes "Vote " ++ decimal node
cause_text Cause.Restart = codes "Restart"

abbrev pub decision_text : Decision → List ℕ
decision_text Commit = codes "Commit"
decision_text (Abort cause) = codes "Abort " ++ cause_text cause

abbrev pub result_text : CampaignResult → List ℕ
result_text Successful = codes "successful"
result_text Failed = codes "failed"
result_text Cancelled = codes "cancelled"

abbrev pub refused_text : CampaignRefusal → List ℕ
refused_text OperationNotPermitted = codes "OperationNotPermitted"
refused_text NoCampaign = codes "NoCampaign"

abbrev pub event_text : MasterEvent → List ℕ
event_text (Start epoch) = codes "Start " ++ decimal epoch
event_text (Begin campaign named) = codes "Begin " ++ decimal campaign ++ codes " " ++ nodes_text named
event_text (PhaseTo phase) = codes "Phase " ++ phase_text phase
event_text (VoteOf node vote) = codes "Vote " ++ decimal node ++ codes " " ++ vote_text vote
event_text CancelAsked = codes "Cancel"
event_text (Decide decision) = codes "Decide " ++ decision_text decision
event_text (EndedAt node outcome) = codes "Ended " ++ decimal node ++ codes " " ++ outcome_text outcome
event_text (Enter result) = codes "Enter " ++ result_text result
