-- The master's list: which event is allowed after which, and what the list says.
use Rattle.std.specs.Prelude.{◌≡◌, ℕ, ◌+◌, List, [], ◌∷◌, ◌++◌, length, Option, Some, None, Bool, true, false, not, ◌&&◌, ◌||◌, if◌then◌else◌, nat_eq, nat_lt, nat_le, is_none, is_some, option_map, replicate}
use Rattle.std.specs.List.{position_from}
use Rattle.ucm_base.specs.declared.ids.NodeSet.{NodeSet}
use Rattle.pm_types.specs.declared.status.Outcome.{Outcome}
use Rattle.pm_types.specs.declared.status.Outcome.TheVariants.{New, Old}
use Rattle.campaign_core.specs.declared.events.Phase.{Phase}
use Rattle.campaign_core.specs.declared.events.Vote.{Vote}
use Rattle.campaign_core.specs.declared.events.Cause.{Cause}
use Rattle.campaign_core.specs.declared.events.Decision.{Decision}
use Rattle.campaign_core.specs.declared.events.Decision.TheVariants.{Commit, Abort}
use Rattle.campaign_core.specs.declared.events.CampaignResult.{CampaignResult}
use Rattle.campaign_core.specs.declared.events.CampaignResult.TheVariants.{Successful, Failed, Cancelled}
use Rattle.campaign_core.specs.declared.events.CampaignRefusal.{CampaignRefusal}
use Rattle.campaign_core.specs.declared.events.CampaignRefusal.TheVariants.{OperationNotPermitted, NoCampaign}
use Rattle.campaign_core.specs.declared.events.MasterEvent.{MasterEvent}
use Rattle.campaign_core.specs.declared.events.MasterEvent.TheVariants.{Start, Begin, PhaseTo, VoteOf, CancelAsked, Decide, EndedAt, Enter}
use Rattle.campaign_core.specs.declared.fold.Current.{Current}
use Rattle.ucm_base.specs.Limits.{campaign_limit}
use Rattle.campaign_core.specs.declared.fold.Fold.{Fold}
pub use Rattle.campaign_core.specs.Earlier.{all_below}
use Rattle.campaign_core.specs.Nodes.{part_of, with_part, flag_of, any_flag, all_flagged}

-- the fold of no event
abbrev pub nothing_yet : Fold
nothing_yet = record { epoch = 0; earlier = []; current = None }

abbrev pub vote_of : Current → ℕ → Option Vote
vote_of c n = part_of None c.votes n

abbrev pub end_of : Current → ℕ → Option Outcome
end_of c n = part_of None c.ended n

abbrev pub is_undecided : Current → Bool
is_undecided c = is_none c.decision

abbrev pub is_marked : Current → Bool
is_marked c = c.cancel || c.restart

-- all votes but Yes are a no
abbrev pub is_yes : Vote → Bool
is_yes Vote.Yes = true
is_yes (Vote.Refused _ _) = false
is_yes Vote.RolledBack = false
is_yes (Vote.Unreached _ _) = false

abbrev pub voted_yes : Option Vote → Bool
voted_yes None = false
voted_yes (Some v) = is_yes v

abbrev pub voted_no : Option Vote → Bool
voted_no None = false
voted_no (Some v) = not (is_yes v)

-- the lowest node with a vote of no
abbrev pub first_no : Current → Option ℕ
first_no c = position_from voted_no 1 c.votes

abbrev pub has_no : Current → Bool
has_no c = is_some (first_no c)

-- every named node voted Yes
abbrev pub all_yes : Current → Bool
all_yes c = all_flagged voted_yes c.named.flags c.votes

abbrev pub has_ended : Option Outcome → Bool
has_ended o = is_some o

-- every named node has ended
abbrev pub all_ended : Current → Bool
all_ended c = all_flagged has_ended c.named.flags c.ended

-- the phases follow each other: none, Transferring, Processing, Activating
abbrev pub is_next : Option Phase → Phase → Bool
is_next None Phase.Transferring = true
is_next (Some Phase.Transferring) Phase.Processing = true
is_next (Some Phase.Processing) Phase.Activating = true
is_next _ _ = false

abbrev pub is_activating : Option Phase → Bool
is_activating (Some Phase.Activating) = true
is_activating _ = false

-- the first cause that holds: the cancel mark, the lowest vote of no, the restart mark
abbrev pub cause_of : Bool → Option ℕ → Bool → Option Cause
cause_of true _ _ = Some Cause.Cancel
cause_of false (Some n) _ = Some (Cause.Vote n)
cause_of false None true = Some Cause.Restart
cause_of false None false = None

abbrev pub first_cause : Current → Option Cause
first_cause c = cause_of c.cancel (first_no c) c.restart

abbrev pub is_cause : Option Cause → Cause → Bool
is_cause (Some Cause.Cancel) Cause.Cancel = true
is_cause (Some (Cause.Vote n)) (Cause.Vote m) = nat_eq n m
is_cause (Some Cause.Restart) Cause.Restart = true
is_cause _ _ = false

-- a commit needs every Yes and no mark, an abort has the first cause
abbrev pub may_decide : Current → Decision → Bool
may_decide c Commit = is_undecided c && (all_yes c && not (is_marked c))
may_decide c (Abort cause) = is_undecided c && is_cause (first_cause c) cause

-- a node ends New exactly where the decision is Commit
abbrev pub is_new_of : Option Decision → Outcome → Bool
is_new_of None o = false
is_new_of (Some Commit) New = true
is_new_of (Some Commit) Old = false
is_new_of (Some (Abort _)) New = false
is_new_of (Some (Abort _)) Old = true

abbrev pub is_cancel : Cause → Bool
is_cancel Cause.Cancel = true
is_cancel (Cause.Vote _) = false
is_cancel Cause.Restart = false

-- Successful where Commit, Cancelled where the cause is Cancel, else Failed
abbrev pub is_result_of : Option Decision → CampaignResult → Bool
is_result_of None r = false
is_result_of (Some Commit) Successful = true
is_result_of (Some Commit) Failed = false
is_result_of (Some Commit) Cancelled = false
is_result_of (Some (Abort cause)) Successful = false
is_result_of (Some (Abort cause)) Failed = not (is_cancel cause)
is_result_of (Some (Abort cause)) Cancelled = is_cancel cause

-- the condition of an event in the current campaign
abbrev pub meets : Current → MasterEvent → Bool
meets c (Start _) = true
meets c (Begin _ _) = false
meets c (PhaseTo phase) = is_undecided c && (not (is_marked c) && (not (has_no c) && is_next c.phase phase))
meets c (VoteOf n v) =
    is_undecided c
    && (not c.restart && (flag_of c.named n && (is_none (vote_of c n) && (not (is_yes v) || is_activating c.phase))))
meets c CancelAsked = is_undecided c && not c.cancel
meets c (Decide d) = may_decide c d
meets c (EndedAt n o) = flag_of c.named n && (is_none (end_of c n) && is_new_of c.decision o)
meets c (Enter r) = all_ended c && is_result_of c.decision r

abbrev pub may_begin : Fold → ℕ → NodeSet → Bool
may_begin f k named =
    nat_le 1 f.epoch
    && (is_none f.current
    && (nat_le 1 k && (all_below k f.earlier && (any_flag named && nat_lt (length f.earlier) campaign_limit))))

abbrev pub unless : Bool → Option CampaignRefusal
unless true = None
unless false = Some OperationNotPermitted

abbrev pub in_current : Option Current → MasterEvent → Option CampaignRefusal
in_current None e = Some NoCampaign
in_current (Some c) e = unless (meets c e)

-- the refusal of an event after the fold, or none where the event is allowed
abbrev pub refusal_of : Fold → MasterEvent → Option CampaignRefusal
refusal_of f (Start epoch) = unless (nat_eq epoch (f.epoch + 1))
refusal_of f (Begin k named) = unless (may_begin f k named)
refusal_of f (PhaseTo p) = in_current f.current (PhaseTo p)
refusal_of f (VoteOf n v) = in_current f.current (VoteOf n v)
refusal_of f CancelAsked = in_current f.current CancelAsked
refusal_of f (Decide d) = in_current f.current (Decide d)
refusal_of f (EndedAt n o) = in_current f.current (EndedAt n o)
refusal_of f (Enter r) = in_current f.current (Enter r)

-- what an allowed event makes of the current campaign
abbrev pub changed : Current → MasterEvent → Current
changed c (Start _) = if is_undecided c then record c { restart = true } else c
changed c (Begin _ _) = c
changed c (PhaseTo p) = record c { phase = Some p }
changed c (VoteOf n v) = record c { votes = with_part c.votes n (Some v) }
changed c CancelAsked = record c { cancel = true }
changed c (Decide d) = record c { decision = Some d }
changed c (EndedAt n o) = record c { ended = with_part c.ended n (Some o) }
changed c (Enter _) = c

abbrev pub changed_in : Option Current → MasterEvent → Option Current
changed_in current e = option_map (λ c. changed c e) current

abbrev pub begun : ℕ → NodeSet → Current
begun k named =
    record {
      campaign = k;
      named = named;
      phase = None;
      votes = replicate 8 None;
      cancel = false;
      restart = false;
      decision = None;
      ended = replicate 8 None;
    }

abbrev pub entered : List (ℕ × CampaignResult) → Option Current → CampaignResult → List (ℕ × CampaignResult)
entered earlier None r = earlier
entered earlier (Some c) r = earlier ++ (c.campaign, r) ∷ []

-- the fold after an allowed event
abbrev pub after_event : Fold → MasterEvent → Fold
after_event f (Start epoch) =
    record { epoch = epoch; earlier = f.earlier; current = changed_in f.current (Start epoch) }
after_event f (Begin k named) = record f { current = Some (begun k named) }
after_event f (PhaseTo p) = record f { current = changed_in f.current (PhaseTo p) }
after_event f (VoteOf n v) = record f { current = changed_in f.current (VoteOf n v) }
after_event f CancelAsked = record f { current = changed_in f.current CancelAsked }
after_event f (Decide d) = record f { current = changed_in f.current (Decide d) }
after_event f (EndedAt n o) = record f { current = changed_in f.current (EndedAt n o) }
after_event f (Enter r) = record { epoch = f.epoch; earlier = entered f.earlier f.current r; current = None }

abbrev pub campaign_from : Fold → List MasterEvent → Fold
campaign_from f [] = f
campaign_from f (e ∷ es) = campaign_from (after_event f e) es

-- the fold of a list of events
abbrev pub campaign : List MasterEvent → Fold
campaign es = campaign_from nothing_yet es

abbrev pub IsLegalFrom : Fold → List MasterEvent → Type 0
IsLegalFrom f [] = Unit {0}
IsLegalFrom f (e ∷ es) = (refusal_of f e ≡ None) × IsLegalFrom (after_event f e) es

-- each event meets its condition in the fold of the events before it
abbrev pub IsLegal : List MasterEvent → Type 0
IsLegal es = IsLegalFrom nothing_yet es
