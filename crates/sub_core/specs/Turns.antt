-- What a driver's answered calls are, and what it asks for in the end phase.
use Rattle.std.specs.Prelude.{◌≡◌, ℕ, ⊤, Bool, false, not, IsTrue, List, [], ◌∷◌, ◌++◌, map, Some}
use Rattle.std.specs.List.{list_all}
use Rattle.ucm_base.specs.declared.ids.CallNo.{CallNo}
use Rattle.pm_types.specs.declared.replies.Refusal.{Refusal}
use Rattle.pm_types.specs.declared.replies.Reply.{Reply}
use Rattle.pm_types.specs.declared.replies.Reply.TheVariants.{Refused}
use Rattle.world.specs.Messages.{Message, is_refusal, is_told}
use Rattle.world.specs.RoundCalls.{round_calls}
use Rattle.sub_core.specs.declared.answers.Finding.{Finding}
use Rattle.sub_core.specs.declared.answers.Round.{Round}
use Rattle.sub_core.specs.declared.answers.Todo.{Todo}
use Rattle.sub_core.specs.Calls.{step_bytes}
use Rattle.sub_core.specs.Driving.{decision_given, end_wish, todo, todo_for, IsBeforeEnd}
use Rattle.sub_core.specs.Ending.{end_at}
use Rattle.sub_core.specs.Given.{AreGiven, Given, IsTask, Task, after, sent_of, told_of}
use Rattle.sub_core.specs.Made.{AreInTurn, AreSentInTurn, IsOfRounds, Made, ends_at_rest, ids_given, made_in, made_of}

-- these are first calls of the rounds of a task
abbrev pub AreOfRounds : List (List ℕ) → Task → List Made → Type 0
AreOfRounds lent task made = IsOfRounds task.campaign task.epoch task.first (step_bytes lent task.steps) made

-- before the end the answered calls are first calls of the rounds; so they are with the newest call, if it isn't
-- answered, whatever its reply will be
abbrev pub RoundsAreMade : Type 0
RoundsAreMade =
    (lent : List (List ℕ)) (task : Task) (gs : List Given) → IsTask lent task → AreGiven task gs
    → IsBeforeEnd (after task gs).round
    → AreOfRounds lent task (made_in (told_of lent task gs))
    × ((m : Message) (older : List Message) → sent_of lent task gs ≡ m ∷ older
    → is_told (told_of lent task gs) m.at ≡ false
    → (reply : Reply) → AreOfRounds lent task (made_in (told_of lent task gs) ++ made_of m reply ∷ []))

-- at any time they are calls of the rounds, and then calls that the decision permits, if it was given
abbrev pub CallsAreInTurn : Type 0
CallsAreInTurn =
    (lent : List (List ℕ)) (task : Task) (gs : List Given) → IsTask lent task → AreGiven task gs
    → AreInTurn (decision_given (after task gs).round) task.campaign task.epoch task.first (step_bytes lent task.steps)
    (told_of lent task gs) (sent_of lent task gs)

-- and so is all that was sent, whether it was answered or not
abbrev pub MessagesAreInTurn : Type 0
MessagesAreInTurn =
    (lent : List (List ℕ)) (task : Task) (gs : List Given) → IsTask lent task → AreGiven task gs
    → AreSentInTurn (decision_given (after task gs).round) task.campaign (step_bytes lent task.steps)
    (told_of lent task gs) (sent_of lent task gs)

-- all calls of the rounds were made, and none was refused
pub record AreAllOfRounds (lent : List (List ℕ)) (task : Task) (made : List Made) : Type 0 where
  pub calls : map (λ m. m.call) made ≡ round_calls task.campaign (ids_given made) (step_bytes lent task.steps)
  pub accepted : IsTrue (list_all (λ m. not (is_refusal m.reply)) made)

-- the last call was refused so
pub record IsLastRefused (call_no : CallNo) (why : Refusal) (made : List Made) : Type 0 where
  pub older : List Made
  pub last : Made
  pub split : made ≡ older ++ last ∷ []
  pub at : last.at ≡ call_no
  pub reply : last.reply ≡ Refused why

-- what a vote says of the answered calls
abbrev pub VoteIsMade : List (List ℕ) → Task → Finding → List Made → Type 0
VoteIsMade lent task Finding.Yes made = AreAllOfRounds lent task made
VoteIsMade lent task Finding.RolledBack made = AreAllOfRounds lent task made
VoteIsMade lent task (Finding.Refused call_no why) made = IsLastRefused call_no why made
VoteIsMade lent task finding made = ⊤

abbrev pub VotesAreMade : Type 0
VotesAreMade =
    (lent : List (List ℕ)) (task : Task) (gs : List Given) → IsTask lent task → AreGiven task gs
    → IsBeforeEnd (after task gs).round
    → (finding : Finding) → todo (after task gs) ≡ Todo.Rest finding
    → VoteIsMade lent task finding (made_in (told_of lent task gs))

-- where the end is found, the last of them is a Sync that shows the node at rest
abbrev pub EndIsMade : Type 0
EndIsMade =
    (lent : List (List ℕ)) (task : Task) (gs : List Given) → IsTask lent task → AreGiven task gs
    → (call_no : CallNo) → todo (after task gs) ≡ Todo.Rest (Finding.Ended call_no)
    → IsTrue (ends_at_rest (made_in (told_of lent task gs)))

-- in the end phase what is asked for is due by what was told, unless it was missed too often
abbrev pub EndIsAsked : Type 0
EndIsAsked =
    (lent : List (List ℕ)) (task : Task) (gs : List Given) → IsTask lent task → AreGiven task gs
    → (commit : Bool) → (after task gs).round ≡ Some (Round.End commit)
    → todo (after task gs) ≡ todo_for (after task gs) (end_wish (end_at commit (told_of lent task gs)))
