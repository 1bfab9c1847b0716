-- Why a driver rests.
use Rattle.std.specs.Prelude.{◌≡◌, ◌⊎◌, ◌↔◌, ℕ, ◌≤◌, ⊤, Bool, true, false, List, [], ◌∷◌, ◌++◌, length, min, Some}
use Rattle.ucm_base.specs.Limits.{attempt_limit}
use Rattle.ucm_base.specs.declared.ids.CallNo.{CallNo}
use Rattle.pm_types.specs.declared.replies.Refusal.{Refusal}
use Rattle.pm_types.specs.declared.replies.Reply.{Reply}
use Rattle.pm_types.specs.declared.replies.Reply.TheVariants.{Synced}
use Rattle.pm_types.specs.declared.replies.Synced.{Synced as Shown}
use Rattle.pm_types.specs.declared.status.Status.TheVariants.{Activated, RolledBack}
use Rattle.campaign_core.specs.declared.events.Vote.{Vote}
use Rattle.campaign_core.specs.declared.fold.Current.{Current}
use Rattle.world.specs.Evidence.{EndEvidence, VoteEvidence}
use Rattle.world.specs.Messages.{Message, Told, Answered}
use Rattle.world.specs.RoundCalls.{calls_until, ids_of, is_past, AllFit}
use Rattle.world.specs.Rounds.{AtSync, stage_of}
use Rattle.world.specs.Sends.{activate_done, has_refusal, is_end_sync, is_masters, is_settled, showed_after_activate}
use Rattle.sub_core.specs.declared.answers.Finding.{Finding}
use Rattle.sub_core.specs.declared.answers.Got.{Got}
use Rattle.sub_core.specs.declared.answers.Rises.{Rises}
use Rattle.sub_core.specs.declared.answers.Round.{Round}
use Rattle.sub_core.specs.declared.answers.Todo.{Todo}
use Rattle.sub_core.specs.Calls.{step_bytes}
use Rattle.sub_core.specs.Driving.{is_answer, is_missed, step, todo, unanswered, IsBeforeEnd}
use Rattle.sub_core.specs.declared.progress.EndProgress.{EndProgress}
use Rattle.sub_core.specs.Ending.{end_at}
use Rattle.sub_core.specs.Failures.{faults_in, last_count, losses_in}
use Rattle.sub_core.specs.Given.{AreGiven, Begun, Gave, GaveNothing, Given, IsTask, Task, after, is_asked, replies_to, sent_of, told_of}
use Rattle.sub_core.specs.Sends.{phase_of}
use Rattle.sub_core.specs.States.{DriverState}

-- the rounds that prepare
abbrev pub is_preparing : Round → Bool
is_preparing Round.Sync = true
is_preparing Round.Transfer = true
is_preparing Round.Process = true
is_preparing _ = false

-- each call of the rounds up to this one is answered, none is refused, and since the last package went into processing
-- the node was seen not to work
pub record IsRoundDone (k : ℕ) (packages : List (List ℕ)) (round : Round) (told : List Told) (replies : List Reply) :
    Type 0 where
  pub prepares : is_preparing round ≡ true
  pub accepted : has_refusal told ≡ false
  pub answered : length (calls_until (phase_of round) k (ids_of replies) packages) ≤ length replies
  pub settled : is_settled told ≡ true

-- whether an answer is of the kind that what is asked has
abbrev pub is_answer_to : Todo → Got → Bool
is_answer_to (Todo.Send call_no asked) (Got.Replied reply) = is_answer asked reply
is_answer_to Todo.Unit (Got.UnitOf unit) = true
is_answer_to _ _ = false

-- no answer to what is asked
abbrev pub IsVain : Todo → Given → Type 0
IsVain asked (Begun round) = ⊥
IsVain asked (Gave got) = is_answer_to asked got ≡ false
IsVain asked GaveNothing = ⊤

-- the rises of the misses, the oldest first
abbrev pub misses_in : List Given → List Rises
misses_in [] = []
misses_in (Gave (Got.Miss losses faults) ∷ gs) = misses_in gs ++ record { losses = losses; faults = faults } ∷ []
misses_in (_ ∷ gs) = misses_in gs

-- each of these was given where just this was asked for, and is no answer to it
abbrev pub AreVain : Task → List Given → Todo → List Given → Type 0
AreVain task older asked [] = ⊤
AreVain task older asked (g ∷ row) =
    IsVain asked g × (todo (after task (row ++ older)) ≡ asked) × AreVain task older asked row

-- these misses in a row at one call or unit were given last, and no answer to it since it was asked for
pub record AreMissed (task : Task) (misses : List Rises) (gs : List Given) : Type 0 where
  pub row : List Given
  pub older : List Given
  pub split : gs ≡ row ++ older
  pub asked : is_asked (todo (after task older)) ≡ true
  pub vain : AreVain task older (todo (after task older)) row
  pub rises : misses_in row ≡ misses

-- eight misses in a row, with these sums
pub record AreEight (task : Task) (lost failed : ℕ) (gs : List Given) : Type 0 where
  pub rises : List Rises
  pub missed : AreMissed task rises gs
  pub eight : length rises ≡ attempt_limit
  pub losses : lost ≡ min last_count (losses_in rises)
  pub faults : failed ≡ min last_count (faults_in rises)

-- the Sync of this number, the node's last message, shows that it is at rest
pub record IsEnded (task : Task) (call_no : CallNo) (told : List Told) (sent : List Message) : Type 0 where
  pub newest : Message
  pub older : List Message
  pub last : sent ≡ newest ∷ older
  pub number : newest.at ≡ call_no
  pub shown : (c : Current) → c.campaign ≡ task.campaign → EndEvidence task.epoch c told sent

-- the evidence of a finding, and its round
abbrev pub IsShown : List (List ℕ) → Task → Round → List Given → Finding → Type 0
IsShown lent task round gs Finding.RoundDone =
    IsRoundDone task.campaign (step_bytes lent task.steps) round (told_of lent task gs) (replies_to lent task gs)
    × (is_past (phase_of round) (stage_of (step_bytes lent task.steps) AtSync (replies_to lent task gs)) ≡ true)
IsShown lent task round gs Finding.Yes = (round ≡ Round.Activate) × VoteEvidence Vote.Yes (told_of lent task gs)
IsShown lent task round gs (Finding.Refused call_no why) =
    IsBeforeEnd (Some round) × VoteEvidence (Vote.Refused call_no why) (told_of lent task gs)
IsShown lent task round gs Finding.RolledBack =
    (round ≡ Round.Activate) × VoteEvidence Vote.RolledBack (told_of lent task gs)
IsShown lent task round gs (Finding.Unreached losses faults) =
    (eight : AreEight task losses faults gs) × (eight.rises ≡ (after task gs).misses)
IsShown lent task round gs (Finding.Ended call_no) =
    (commit : Bool) × (round ≡ Round.End commit) × IsEnded task call_no (told_of lent task gs) (sent_of lent task gs)

-- whatever a driver was given, what it finds has its evidence
abbrev pub FindingsAreShown : Type 0
FindingsAreShown =
    (lent : List (List ℕ)) (task : Task) (gs : List Given) → IsTask lent task → AreGiven task gs
    → (round : Round) → (after task gs).round ≡ Some round
    → (finding : Finding) → todo (after task gs) ≡ Todo.Rest finding → IsShown lent task round gs finding

-- Activate is done, and neither of its outcomes was told since
abbrev pub IsActivating : List Told → Type 0
IsActivating told =
    (activate_done told ≡ true) × (has_refusal told ≡ false) × (showed_after_activate Activated told ≡ false)
    × (showed_after_activate RolledBack told ≡ false)

-- a package was accepted into processing, and since then the node wasn't seen not to work
abbrev pub IsProcessing : List Told → Type 0
IsProcessing told = (has_refusal told ≡ false) × (is_settled told ≡ false) × (activate_done told ≡ false)

-- the node has something to do
abbrev pub IsUnitDue : Round → List Told → Type 0
IsUnitDue (Round.End commit) told = end_at commit told ≡ EndProgress.Units
IsUnitDue Round.Activate told = IsProcessing told ⊎ IsActivating told
IsUnitDue round told = IsProcessing told

-- units are asked for exactly there, unless they were missed too often
abbrev pub UnitsAreDue : Type 0
UnitsAreDue =
    (lent : List (List ℕ)) (task : Task) (gs : List Given) → IsTask lent task → AreGiven task gs
    → (round : Round) → (after task gs).round ≡ Some round
    → (todo (after task gs) ≡ Todo.Unit) ↔ (IsUnitDue round (told_of lent task gs)
    × (is_missed (after task gs) ≡ false))

-- whether an attempt failed
abbrev pub is_miss : Got → Bool
is_miss (Got.Miss losses faults) = true
is_miss _ = false

-- an answer of another kind, or none for want of memory, leaves what is asked
abbrev pub OthersLeaveAll : Type 0
OthersLeaveAll =
    (d : DriverState)
    → ((got : Got) → is_answer_to (todo d) got ≡ false → is_miss got ≡ false → todo (step got d) ≡ todo d)
    × (todo (unanswered d) ≡ todo d)

-- and a round is found done wherever it is
abbrev pub DoneIsFound : Type 0
DoneIsFound =
    (lent : List (List ℕ)) (task : Task) (gs : List Given) → IsTask lent task → AreGiven task gs
    → (round : Round) → (after task gs).round ≡ Some round
    → IsRoundDone task.campaign (step_bytes lent task.steps) round (told_of lent task gs) (replies_to lent task gs)
    → todo (after task gs) ≡ Todo.Rest Finding.RoundDone

-- the misses that a driver keeps are those in a row at what it asks
abbrev pub MissesAreKept : Type 0
MissesAreKept =
    (lent : List (List ℕ)) (task : Task) (gs : List Given) → IsTask lent task → AreGiven task gs
    → (is_asked (todo (after task gs)) ≡ true) → AreMissed task (after task gs).misses gs

-- the end is found by the newest that was told: a Sync of the end phase at rest
abbrev pub EndIsFound : Type 0
EndIsFound =
    (lent : List (List ℕ)) (task : Task) (gs : List Given) → IsTask lent task → AreGiven task gs
    → (commit : Bool) → (after task gs).round ≡ Some (Round.End commit)
    → (m : Message) (shown : Shown) (older : List Told) → told_of lent task gs ≡ Answered m (Synced shown) ∷ older
    → is_end_sync task.campaign task.epoch m ≡ true → is_masters shown.session ≡ false → shown.transfers ≡ []
    → todo (after task gs) ≡ Todo.Rest (Finding.Ended m.at)

-- a vote is found wherever its evidence is: a refusal, or what Activate came to
abbrev pub VotesAreFound : Type 0
VotesAreFound =
    (lent : List (List ℕ)) (task : Task) (gs : List Given) → IsTask lent task → AreGiven task gs
    → IsBeforeEnd (after task gs).round
    → (has_refusal (told_of lent task gs) ≡ true
    → ((call_no : CallNo) × (why : Refusal) × (todo (after task gs) ≡ Todo.Rest (Finding.Refused call_no why))))
    × (has_refusal (told_of lent task gs) ≡ false → showed_after_activate Activated (told_of lent task gs) ≡ true
    → todo (after task gs) ≡ Todo.Rest Finding.Yes)
    × (has_refusal (told_of lent task gs) ≡ false → showed_after_activate RolledBack (told_of lent task gs) ≡ true
    → todo (after task gs) ≡ Todo.Rest Finding.RolledBack)

-- and eight misses in a row are found
abbrev pub UnreachedIsFound : Type 0
UnreachedIsFound =
    (lent : List (List ℕ)) (task : Task) (gs : List Given) → IsTask lent task → AreGiven task gs
    → (losses faults : ℕ) → AreEight task losses faults gs
    → todo (after task gs) ≡ Todo.Rest (Finding.Unreached losses faults)

-- the replies of the rounds fit their calls
abbrev pub RepliesFit : Type 0
RepliesFit =
    (lent : List (List ℕ)) (task : Task) (gs : List Given) → IsTask lent task → AreGiven task gs
    → IsBeforeEnd (after task gs).round → has_refusal (told_of lent task gs) ≡ false
    → AllFit (step_bytes lent task.steps) AtSync (replies_to lent task gs)
