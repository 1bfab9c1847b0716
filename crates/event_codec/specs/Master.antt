-- The master's events and its state, as they are spelled.
use Rattle.std.specs.Prelude.{◌≡◌, ℕ, ◌+◌, ◌*◌, ◌<◌, ◌≤◌, ◌^◌, Bool, if◌then◌else◌, List, [], ◌∷◌, length, ⊤, Option, Some, None}
use Rattle.std.specs.List.{AllByRecursion, flat_map}
use Rattle.wire.specs.Fields.{u8_field, u16_field, u32_field, u64_field}
use Rattle.ucm_base.specs.Limits.{node_limit}
use Rattle.ucm_base.specs.declared.ids.NodeSet.{NodeSet}
use Rattle.campaign_core.specs.declared.events.Phase.{Phase}
use Rattle.campaign_core.specs.declared.events.Phase.TheVariants.{Transferring, Processing, Activating}
use Rattle.campaign_core.specs.declared.events.Vote.{Vote}
use Rattle.campaign_core.specs.declared.events.Vote.TheVariants as vote
use Rattle.campaign_core.specs.declared.events.Cause.TheVariants as cause
use Rattle.campaign_core.specs.declared.events.Decision.{Decision}
use Rattle.campaign_core.specs.declared.events.Decision.TheVariants.{Commit, Abort}
use Rattle.campaign_core.specs.declared.events.CampaignResult.{CampaignResult}
use Rattle.campaign_core.specs.declared.events.CampaignResult.TheVariants.{Successful, Failed, Cancelled}
use Rattle.campaign_core.specs.declared.events.MasterEvent.{MasterEvent}
use Rattle.campaign_core.specs.declared.events.MasterEvent.TheVariants.{Start, Begin, PhaseTo, VoteOf, CancelAsked, Decide, EndedAt, Enter}
use Rattle.campaign_core.specs.declared.fold.Current.{Current}
use Rattle.campaign_core.specs.declared.fold.Fold.{Fold}
use Rattle.event_codec.specs.Spelling.{◌⌢◌, ◌&◌, Any, HasBits, ManyFit, OptionFits, bool_spelled, option_spelled, pair_spelled, PairFits}
use Rattle.event_codec.specs.Replies.{call_no_spelled, CallNoFits, outcome_spelled, refusal_spelled, RefusalFits}

-- a node's number
abbrev pub IsNode : ℕ → Type 0
IsNode n = (1 ≤ n) × (n ≤ node_limit)

-- the flags as a number, the first with the lowest bit
abbrev pub bits_of : List Bool → ℕ
bits_of [] = 0
bits_of (flag ∷ flags) = (if flag then 1 else 0) + 2 * bits_of flags

-- a set of nodes: bit n - 1 for node n
abbrev pub node_set_spelled : NodeSet → List ℕ
node_set_spelled set = u8_field (bits_of set.flags)

abbrev pub NodeSetFits : NodeSet → Type 0
NodeSetFits set = length set.flags ≡ node_limit

-- a phase's number; 0 is that of none, while Syncs are sent
abbrev pub campaign_phase_code : Phase → ℕ
campaign_phase_code Transferring = 1
campaign_phase_code Processing = 2
campaign_phase_code Activating = 3

abbrev pub campaign_phase_spelled : Phase → List ℕ
campaign_phase_spelled phase = u8_field (campaign_phase_code phase)

abbrev pub phase_or_0 : Option Phase → ℕ
phase_or_0 None = 0
phase_or_0 (Some phase) = campaign_phase_code phase

abbrev pub vote_spelled : Vote → List ℕ
vote_spelled vote.Yes = u8_field 0
vote_spelled (vote.Refused call_no refusal) = u8_field 1 ⌢ call_no_spelled call_no ⌢ refusal_spelled refusal
vote_spelled vote.RolledBack = u8_field 2
vote_spelled (vote.Unreached losses faults) = u8_field 3 ⌢ u64_field losses ⌢ u64_field faults

abbrev pub VoteFits : Vote → Type 0
VoteFits (vote.Refused call_no refusal) = CallNoFits call_no & RefusalFits refusal
VoteFits (vote.Unreached losses faults) = HasBits 64 losses & HasBits 64 faults
VoteFits _ = ⊤

abbrev pub decision_spelled : Decision → List ℕ
decision_spelled Commit = u8_field 0
decision_spelled (Abort cause.Cancel) = u8_field 1
decision_spelled (Abort (cause.Vote node)) = u8_field 2 ⌢ u8_field node
decision_spelled (Abort cause.Restart) = u8_field 3

abbrev pub DecisionFits : Decision → Type 0
DecisionFits (Abort (cause.Vote node)) = IsNode node
DecisionFits _ = ⊤

abbrev pub result_code : CampaignResult → ℕ
result_code Successful = 0
result_code Failed = 1
result_code Cancelled = 2

abbrev pub result_spelled : CampaignResult → List ℕ
result_spelled result = u8_field (result_code result)

-- an event: its number, and its fields
abbrev pub event_spelled : MasterEvent → List ℕ
event_spelled (Start epoch) = u8_field 0 ⌢ u32_field epoch
event_spelled (Begin campaign named) = u8_field 1 ⌢ u32_field campaign ⌢ node_set_spelled named
event_spelled (PhaseTo phase) = u8_field 2 ⌢ campaign_phase_spelled phase
event_spelled (VoteOf node vote) = u8_field 3 ⌢ u8_field node ⌢ vote_spelled vote
event_spelled CancelAsked = u8_field 4
event_spelled (Decide decision) = u8_field 5 ⌢ decision_spelled decision
event_spelled (EndedAt node outcome) = u8_field 6 ⌢ u8_field node ⌢ outcome_spelled outcome
event_spelled (Enter result) = u8_field 7 ⌢ result_spelled result

abbrev pub EventFits : MasterEvent → Type 0
EventFits (Start epoch) = HasBits 32 epoch
EventFits (Begin campaign named) = HasBits 32 campaign & NodeSetFits named
EventFits (VoteOf node vote) = IsNode node & VoteFits vote
EventFits (Decide decision) = DecisionFits decision
EventFits (EndedAt node outcome) = IsNode node & Any outcome
EventFits _ = ⊤

-- the current campaign: its number, its nodes, its phase, the votes, the two marks, the decision, the outcomes
abbrev pub current_spelled : Current → List ℕ
current_spelled c =
    u32_field c.campaign
    ⌢ node_set_spelled c.named
    ⌢ u8_field (phase_or_0 c.phase)
    ⌢ flat_map (option_spelled vote_spelled) c.votes
    ⌢ bool_spelled c.cancel
    ⌢ bool_spelled c.restart
    ⌢ option_spelled decision_spelled c.decision
    ⌢ flat_map (option_spelled outcome_spelled) c.ended

abbrev pub CurrentFits : Current → Type 0
CurrentFits c =
    HasBits 32 c.campaign
    & NodeSetFits c.named
    & Any c.phase
    & ManyFit (OptionFits VoteFits) node_limit c.votes
    & Any c.cancel
    & Any c.restart
    & OptionFits DecisionFits c.decision
    & ManyFit (OptionFits Any) node_limit c.ended

-- an earlier campaign: its number and its result
abbrev pub earlier_spelled : ℕ × CampaignResult → List ℕ
earlier_spelled = pair_spelled u32_field result_spelled

abbrev pub EarlierFits : ℕ × CampaignResult → Type 0
EarlierFits = PairFits (HasBits 32) Any

-- a count of two bytes, and the earlier campaigns
abbrev pub campaigns_spelled : List (ℕ × CampaignResult) → List ℕ
campaigns_spelled earlier = u16_field (length earlier) ⌢ flat_map earlier_spelled earlier

abbrev pub CampaignsFit : List (ℕ × CampaignResult) → Type 0
CampaignsFit earlier = HasBits 16 (length earlier) & AllByRecursion EarlierFits earlier

-- what the master's list says
abbrev pub fold_spelled : Fold → List ℕ
fold_spelled f = u32_field f.epoch ⌢ campaigns_spelled f.earlier ⌢ option_spelled current_spelled f.current

abbrev pub FoldFits : Fold → Type 0
FoldFits f = HasBits 32 f.epoch & CampaignsFit f.earlier & OptionFits CurrentFits f.current

-- the most bytes of an event
abbrev pub event_longest : ℕ
event_longest = 143

-- the most bytes of a fold with at most 4,096 earlier campaigns: five for each, and 1,170 beside them
abbrev pub fold_longest : ℕ
fold_longest = 21650
