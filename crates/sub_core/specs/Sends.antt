-- What the campaign law allows a driver to send.
use Rattle.std.specs.Prelude.{◌≡◌, ◌⊎◌, ℕ, ◌+◌, ⊤, Bool, true, false, ◌&&◌, ◌||◌, nat_eq, List, [], ◌∷◌, ◌++◌, length, Option, Some, None}
use Rattle.std.specs.List.{AllByRecursion}
use Rattle.ucm_base.specs.declared.ids.CallNo.{CallNo}
use Rattle.campaign_core.specs.Campaign.{end_of, is_marked, vote_of}
use Rattle.campaign_core.specs.Nodes.{flag_of}
use Rattle.campaign_core.specs.declared.events.Cause.{Cause}
use Rattle.campaign_core.specs.declared.events.Decision.{Decision}
use Rattle.campaign_core.specs.declared.events.Decision.TheVariants.{Commit, Abort}
use Rattle.campaign_core.specs.declared.events.Phase.{Phase}
use Rattle.campaign_core.specs.declared.fold.Current.{Current}
use Rattle.pm_types.specs.declared.calls.Call.{Call}
use Rattle.world.specs.Attempts.{Attempt, Tried, Worked, replies_by, told_by}
use Rattle.world.specs.Rounds.{AtSync, call_at, stage_of}
use Rattle.world.specs.Messages.{Message, Told, is_sync, is_told}
use Rattle.world.specs.Sends.{MaySend, Packages, delete_at, end_call_at, last_shown, last_status, next_number, replies_of}
use Rattle.sub_core.specs.declared.answers.Round.{Round}
use Rattle.sub_core.specs.declared.answers.SendStep.{SendStep}
use Rattle.sub_core.specs.declared.answers.Todo.{Todo}
use Rattle.sub_core.specs.Calls.{step_bytes}
use Rattle.sub_core.specs.Driving.{decision_given, todo, IsBeforeEnd}
use Rattle.sub_core.specs.Given.{AreGiven, Given, IsTask, Task, after, attempts, message_of, replies_to, sent_of, told_of}

-- the phase in which a round goes on; before the first phase there is the round of Sync
abbrev pub phase_of : Round → Option Phase
phase_of Round.Sync = None
phase_of Round.Transfer = Some Phase.Transferring
phase_of Round.Process = Some Phase.Processing
phase_of _ = Some Phase.Activating

abbrev pub decision_of : Bool → Cause → Decision
decision_of true cause = Commit
decision_of false cause = Abort cause

-- the master's list while node n goes through a round: undecided, without a mark and a vote of the node
pub record IsInRound (n : ℕ) (task : Task) (round : Round) (c : Current) : Type 0 where
  pub campaign : c.campaign ≡ task.campaign
  pub named : flag_of c.named n ≡ true
  pub undecided : c.decision ≡ None
  pub no_mark : is_marked c ≡ false
  pub no_vote : vote_of c n ≡ None
  pub phase : c.phase ≡ phase_of round

-- and while it goes to its end
pub record IsAtEnd (n : ℕ) (task : Task) (commit : Bool) (c : Current) : Type 0 where
  pub campaign : c.campaign ≡ task.campaign
  pub named : flag_of c.named n ≡ true
  pub cause : Cause
  pub decided : c.decision ≡ Some (decision_of commit cause)
  pub not_ended : end_of c n ≡ None

abbrev pub IsMasters : ℕ → Task → Round → Current → Type 0
IsMasters n task (Round.End commit) c = IsAtEnd n task commit c
IsMasters n task round c = IsInRound n task round c

-- what was sent to the node before: in other epochs, or for other campaigns; the driver's numbers go on from there
pub record AreEarlier (task : Task) (earlier : List Message) : Type 0 where
  pub other : AllByRecursion (λ m. (nat_eq m.at.epoch task.epoch && nat_eq m.campaign task.campaign) ≡ false) earlier
  pub next : next_number task.epoch earlier ≡ record { epoch = task.epoch; number = task.first }

-- before the end, what the campaign law reads of the messages are the driver's replies, whatever was sent before
abbrev pub RepliesAreRead : Type 0
RepliesAreRead =
    (lent : List (List ℕ)) (task : Task) (gs : List Given) → IsTask lent task → AreGiven task gs
    → IsBeforeEnd (after task gs).round → (earlier : List Message) → AreEarlier task earlier
    → replies_of task.campaign (told_of lent task gs) (sent_of lent task gs ++ earlier) ≡ replies_to lent task gs

-- a Sync, or what the decision has for the last status, or what deletes a transfer that the last Sync listed
abbrev pub IsEndCall : Bool → ℕ → ℕ → List Told → Call → Type 0
IsEndCall commit k epoch told call =
    (cause : Cause)
    → (is_sync call
    || (end_call_at (decision_of commit cause) (last_status k epoch told) call
    || delete_at (last_shown k epoch told) call))
    ≡ true

-- in the rounds a call is the next one for the replies before it, and in the end phase, which only a decision begins,
-- one that this allows for what was told before it
abbrev pub IsCallFor : ℕ → ℕ → List (List ℕ) → Bool → Option Bool → Call → List Attempt → Type 0
IsCallFor k epoch packages false decision call older =
    call_at k (stage_of packages AtSync (replies_by older)) ≡ Some call
IsCallFor k epoch packages true None call older = ⊥
IsCallFor k epoch packages true (Some commit) call older = IsEndCall commit k epoch (told_by older) call

-- the call of each attempt, the newest first, is one for the attempts before it
abbrev pub AreCallsFor : ℕ → ℕ → List (List ℕ) → Option Bool → List Attempt → Type 0
AreCallsFor k epoch packages decision [] = ⊤
AreCallsFor k epoch packages decision (Tried m reply ∷ older) =
    IsCallFor k epoch packages m.decided decision m.call older × AreCallsFor k epoch packages decision older
AreCallsFor k epoch packages decision (Worked status ∷ older) = AreCallsFor k epoch packages decision older

abbrev pub CallsAreNext : Type 0
CallsAreNext =
    (lent : List (List ℕ)) (task : Task) (gs : List Given) → IsTask lent task → AreGiven task gs
    → AreCallsFor task.campaign task.epoch (step_bytes lent task.steps) (decision_given (after task gs).round)
    (attempts lent task gs)

-- the node's newest message, which isn't answered
pub record IsAgain (m : Message) (told : List Told) (sent : List Message) : Type 0 where
  pub older : List Message
  pub newest : sent ≡ m ∷ older
  pub pending : is_told told m.at ≡ false

-- a message that may be sent now, under the next number
pub record IsNew (packages : Packages) (n : ℕ) (c : Current) (m : Message) (told : List Told) (sent : List Message) :
    Type 0 where
  pub allowed : MaySend packages m.at.epoch n c told sent m.call
  pub next : m.at ≡ next_number m.at.epoch sent

-- whatever a driver was given, each call that it asks for is the node's newest message again, or one that may be sent
abbrev pub SendsAreAllowed : Type 0
SendsAreAllowed =
    (lent : List (List ℕ)) (task : Task) (gs : List Given) → IsTask lent task → AreGiven task gs
    → (packages : Packages) (n : ℕ) → packages task.campaign n ≡ step_bytes lent task.steps
    → (earlier : List Message) → AreEarlier task earlier
    → (c : Current) (round : Round) → (after task gs).round ≡ Some round → IsMasters n task round c
    → (call_no : CallNo) (asked : SendStep) → todo (after task gs) ≡ Todo.Send call_no asked
    → IsNew packages n c (message_of lent (after task gs) call_no asked) (told_of lent task gs)
    (sent_of lent task gs ++ earlier)
    ⊎ IsAgain (message_of lent (after task gs) call_no asked) (told_of lent task gs) (sent_of lent task gs ++ earlier)

-- the messages, the newest first, have the numbers from the first one on, one after another
abbrev pub AreNumbered : ℕ → ℕ → List Message → Type 0
AreNumbered epoch first [] = ⊤
AreNumbered epoch first (m ∷ sent) =
    (m.at ≡ record { epoch = epoch; number = first + length sent }) × AreNumbered epoch first sent

abbrev pub SendsAreNumbered : Type 0
SendsAreNumbered =
    (lent : List (List ℕ)) (task : Task) (gs : List Given) → IsTask lent task → AreGiven task gs
    → AreNumbered task.epoch task.first (sent_of lent task gs)
