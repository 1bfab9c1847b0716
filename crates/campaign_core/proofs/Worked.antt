-- The lists of worked campaigns, as closed facts: each is allowed event by event, and this is what it comes to.
use Rattle.std.specs.Prelude.{◌≡◌, List, [], ◌∷◌, ◌++◌, Option, Some, None, Bool, true, false, refl, map, replicate, is_none, ◌&&◌}
use Rattle.ucm_base.specs.declared.ids.NodeSet.{NodeSet}
use Rattle.pm_types.specs.declared.status.Outcome.TheVariants.{New, Old}
use Rattle.pm_types.specs.declared.replies.Refusal.TheVariants.{ServiceBusy}
use Rattle.campaign_core.specs.declared.events.Phase.TheVariants as Phase
use Rattle.campaign_core.specs.declared.events.Vote.TheVariants as Vote
use Rattle.campaign_core.specs.declared.events.Cause.TheVariants as Cause
use Rattle.campaign_core.specs.declared.events.Decision.TheVariants.{Commit, Abort}
use Rattle.campaign_core.specs.declared.events.CampaignResult.TheVariants.{Successful, Failed, Cancelled}
use Rattle.campaign_core.specs.declared.events.CampaignRefusal.{CampaignRefusal}
use Rattle.campaign_core.specs.declared.events.CampaignRefusal.TheVariants.{OperationNotPermitted, NoCampaign}
use Rattle.campaign_core.specs.declared.events.MasterEvent.{MasterEvent}
use Rattle.campaign_core.specs.declared.events.MasterEvent.TheVariants.{Start, Begin, PhaseTo, VoteOf, CancelAsked, Decide, EndedAt, Enter}
use Rattle.campaign_core.specs.declared.fold.Fold.{Fold}
use Rattle.campaign_core.specs.declared.views.CampaignState.{CampaignState}
use Rattle.campaign_core.specs.declared.views.CampaignState.TheVariants as State
use Rattle.campaign_core.specs.Campaign.{campaign, nothing_yet, after_event, refusal_of}
use Rattle.campaign_core.specs.Views.{state_of}

-- whether each event is allowed after those before it
abbrev all_allowed_from : Fold → List MasterEvent → Bool
all_allowed_from f [] = true
all_allowed_from f (e ∷ es) = is_none (refusal_of f e) && all_allowed_from (after_event f e) es

abbrev all_allowed : List MasterEvent → Bool
all_allowed es = all_allowed_from nothing_yet es

-- the state that is shown after each event
abbrev states_from : Fold → List MasterEvent → List CampaignState
states_from f [] = []
states_from f (e ∷ es) = state_of (after_event f e) ∷ states_from (after_event f e) es

-- the answers to some events, each after the same list
abbrev answers : List MasterEvent → List MasterEvent → List (Option CampaignRefusal)
answers es others = map (refusal_of (campaign es)) others

abbrev no : Option CampaignRefusal
no = Some OperationNotPermitted

abbrev one : NodeSet
one = record { flags = true ∷ replicate 7 false }

abbrev one_and_two : NodeSet
one_and_two = record { flags = true ∷ true ∷ replicate 6 false }

-- the phases of a campaign of some nodes
abbrev opened : NodeSet → List MasterEvent
opened nodes =
    Start 1 ∷ Begin 7 nodes ∷ PhaseTo Phase.Transferring ∷ PhaseTo Phase.Processing ∷ PhaseTo Phase.Activating ∷ []

abbrev voted : List MasterEvent
voted = opened one ++ VoteOf 1 Vote.Yes ∷ []

abbrev committed : List MasterEvent
committed = voted ++ Decide Commit ∷ []

abbrev successful : List MasterEvent
successful = committed ++ EndedAt 1 New ∷ Enter Successful ∷ []

abbrev failed_by_a_vote : List MasterEvent
failed_by_a_vote =
    opened one_and_two
    ++ VoteOf 1 Vote.Yes ∷ VoteOf 2 Vote.RolledBack ∷ Decide (Abort (Cause.Vote 2)) ∷ EndedAt 1 Old ∷ EndedAt 2 Old
    ∷ Enter Failed ∷ []

abbrev failed_by_a_refusal : List MasterEvent
failed_by_a_refusal =
    Start 1 ∷ Begin 7 one_and_two ∷ PhaseTo Phase.Transferring ∷ PhaseTo Phase.Processing
    ∷ VoteOf 2 (Vote.Refused (record { epoch = 1; number = 5 }) ServiceBusy)
    ∷ Decide (Abort (Cause.Vote 2)) ∷ EndedAt 1 Old ∷ EndedAt 2 Old ∷ Enter Failed ∷ []

abbrev failed_unreached : List MasterEvent
failed_unreached =
    Start 1 ∷ Begin 7 one ∷ PhaseTo Phase.Transferring ∷ VoteOf 1 (Vote.Unreached 8 0)
    ∷ Decide (Abort (Cause.Vote 1)) ∷ EndedAt 1 Old ∷ Enter Failed ∷ []

abbrev restarted_before : List MasterEvent
restarted_before = voted ++ Start 2 ∷ Decide (Abort Cause.Restart) ∷ EndedAt 1 Old ∷ Enter Failed ∷ []

abbrev restarted_after : List MasterEvent
restarted_after = committed ++ Start 2 ∷ EndedAt 1 New ∷ Enter Successful ∷ []

abbrev cancelled_before : List MasterEvent
cancelled_before = voted ++ CancelAsked ∷ Decide (Abort Cause.Cancel) ∷ EndedAt 1 Old ∷ Enter Cancelled ∷ []

-- each of them is a list that the table allows
all_are_allowed : map all_allowed
    (successful ∷ failed_by_a_vote ∷ failed_by_a_refusal ∷ failed_unreached ∷ restarted_before ∷ restarted_after
    ∷ cancelled_before ∷ []) ≡ replicate 7 true
all_are_allowed = refl

-- and comes to its result
all_end : map (λ es. (campaign es).earlier)
    (successful ∷ failed_by_a_vote ∷ restarted_before ∷ restarted_after ∷ cancelled_before ∷ [])
    ≡ ((7, Successful) ∷ []) ∷ ((7, Failed) ∷ []) ∷ ((7, Failed) ∷ []) ∷ ((7, Successful) ∷ []) ∷ ((7, Cancelled) ∷ [])
    ∷ []
all_end = refl

-- one is open after its decision, and no cancel is taken there any more
open_after_the_decision : answers committed (CancelAsked ∷ EndedAt 1 Old ∷ EndedAt 1 New ∷ Enter Successful ∷ [])
    ≡ no ∷ no ∷ None ∷ no ∷ []
open_after_the_decision = refl

-- the table's refusals along the way
before_a_start : answers [] (Start 0 ∷ Start 1 ∷ Start 2 ∷ Begin 7 one ∷ CancelAsked ∷ [])
    ≡ no ∷ None ∷ no ∷ no ∷ Some NoCampaign ∷ []
before_a_start = refl

before_a_campaign : answers (Start 1 ∷ [])
    (Begin 0 one ∷ Begin 1 one ∷ Begin 1 (record { flags = replicate 8 false }) ∷ Enter Failed ∷ [])
    ≡ no ∷ None ∷ no ∷ Some NoCampaign ∷ []
before_a_campaign = refl

after_a_campaign : answers successful (Begin 7 one ∷ Begin 6 one ∷ Begin 8 one ∷ EndedAt 1 New ∷ [])
    ≡ no ∷ no ∷ None ∷ Some NoCampaign ∷ []
after_a_campaign = refl

at_the_limit : map
    (λ n. refusal_of (record { epoch = 1; earlier = replicate n (1, Failed); current = None }) (Begin 2 one))
    (4095 ∷ 4096 ∷ []) ≡ None ∷ no ∷ []
at_the_limit = refl

of_two_nodes : answers (Start 1 ∷ Begin 7 one_and_two ∷ [])
    (Decide Commit ∷ VoteOf 1 Vote.Yes ∷ VoteOf 3 Vote.RolledBack ∷ PhaseTo Phase.Processing ∷ [])
    ≡ no ∷ no ∷ no ∷ no ∷ []
of_two_nodes = refl

with_a_no : answers (Start 1 ∷ Begin 7 one_and_two ∷ VoteOf 2 Vote.RolledBack ∷ [])
    (Decide (Abort Cause.Restart) ∷ Decide (Abort (Cause.Vote 2)) ∷ PhaseTo Phase.Transferring
    ∷ VoteOf 2 Vote.RolledBack ∷ []) ≡ no ∷ None ∷ no ∷ no ∷ []
with_a_no = refl

after_a_restart : answers (voted ++ Start 2 ∷ [])
    (Decide Commit ∷ VoteOf 1 Vote.RolledBack ∷ Decide (Abort Cause.Restart) ∷ []) ≡ no ∷ no ∷ None ∷ []
after_a_restart = refl

-- the states that are shown
of_the_successful : states_from nothing_yet successful
    ≡ State.Idle ∷ State.Syncing ∷ State.SoftwarePackageTransferring ∷ State.Processing ∷ State.Activating
    ∷ State.VehicleChecking ∷ State.VehicleChecking ∷ State.VehicleChecking ∷ State.Idle ∷ []
of_the_successful = refl

of_the_cancelled : states_from (campaign voted)
    (CancelAsked ∷ Decide (Abort Cause.Cancel) ∷ EndedAt 1 Old ∷ Enter Cancelled ∷ [])
    ≡ State.Cancelling ∷ State.Cancelling ∷ State.Cancelling ∷ State.Idle ∷ []
of_the_cancelled = refl
