-- Calls with their replies, as the master makes them at one node: those of the rounds, then those of the end phase.
use Rattle.std.specs.Prelude.{◌≡◌, ℕ, zero, suc, ◌+◌, ◌≤◌, Bool, true, false, not, ◌&&◌, if◌then◌else◌, IsTrue, List, [], ◌∷◌, ◌++◌, map, length, take, Option, Some, None}
use Rattle.std.specs.List.{AllByRecursion}
use Rattle.ucm_base.specs.declared.ids.CallNo.{CallNo}
use Rattle.pm_types.specs.declared.calls.Call.{Call}
use Rattle.pm_types.specs.declared.calls.Call.TheVariants.{Sync, DeleteTransfer, Finish, Rollback, RevertProcessedSwPackages as Revert}
use Rattle.pm_types.specs.declared.replies.Reply.{Reply}
use Rattle.pm_types.specs.declared.replies.Reply.TheVariants.{Synced}
use Rattle.world.specs.Messages.{Message, Told, Answered, Showed, is_refusal, is_sync}
use Rattle.world.specs.RoundCalls.{round_calls, ids_of}
use Rattle.world.specs.Sends.{is_masters}

-- a call under its number, with its reply
pub record Made : Type 0 where
  pub at : CallNo
  pub call : Call
  pub reply : Reply

-- the call of a message, with its reply
abbrev pub made_of : Message → Reply → Made
made_of m reply = record { at = m.at; call = m.call; reply = reply }

-- the calls that were answered, the oldest first
abbrev pub made_in : List Told → List Made
made_in [] = []
made_in (Answered m reply ∷ told) = made_in told ++ made_of m reply ∷ []
made_in (Showed status ∷ told) = made_in told

-- those of them that were sent before the decision, and those that were sent after it
abbrev pub made_early : List Told → List Made
made_early [] = []
made_early (Answered m reply ∷ told) =
    if m.decided then made_early told else made_early told ++ made_of m reply ∷ []
made_early (Showed status ∷ told) = made_early told

abbrev pub made_late : List Told → List Made
made_late [] = []
made_late (Answered m reply ∷ told) = if m.decided then made_late told ++ made_of m reply ∷ [] else made_late told
made_late (Showed status ∷ told) = made_late told

-- how many messages were sent before the decision
abbrev pub sent_early : List Message → ℕ
sent_early [] = 0
sent_early (m ∷ sent) = if m.decided then sent_early sent else suc (sent_early sent)

-- the ids that the replies gave to transfers
abbrev pub ids_given : List Made → List ℕ
ids_given made = ids_of (map (λ m. m.reply) made)

-- the calls of messages, the oldest first
abbrev pub calls_in : List Message → List Call
calls_in [] = []
calls_in (m ∷ sent) = calls_in sent ++ m.call ∷ []

-- so many numbers of an epoch, one after another
abbrev pub numbers_from : ℕ → ℕ → ℕ → List CallNo
numbers_from epoch number zero = []
numbers_from epoch number (suc count) =
    record { epoch = epoch; number = number } ∷ numbers_from epoch (number + 1) count

-- whether none but possibly the last was refused
abbrev pub only_last_refused : List Made → Bool
only_last_refused [] = true
only_last_refused (m ∷ []) = true
only_last_refused (m ∷ n ∷ ms) = not (is_refusal m.reply) && only_last_refused (n ∷ ms)

-- the calls of the rounds for these packages, up to some place, from this number of this epoch on
pub record IsOfRounds (k epoch first : ℕ) (packages : List (List ℕ)) (made : List Made) : Type 0 where
  pub calls : map (λ m. m.call) made ≡ take (length made) (round_calls k (ids_given made) packages)
  pub numbers : map (λ m. m.at) made ≡ numbers_from epoch first (length made)
  pub accepted : IsTrue (only_last_refused made)

-- whether a list is empty
abbrev pub has_none : {X : Type 0} → List X → Bool
has_none [] = true
has_none (x ∷ xs) = false

-- the calls of the end phase
abbrev pub is_end_call : Call → Bool
is_end_call Sync = true
is_end_call (DeleteTransfer _) = true
is_end_call Finish = true
is_end_call Rollback = true
is_end_call Revert = true
is_end_call _ = false

-- the calls of the end phase that a decision permits: before it none, and after Commit none that goes back
abbrev pub is_permitted : Option Bool → Call → Bool
is_permitted None call = false
is_permitted (Some commit) Rollback = not commit
is_permitted (Some commit) Revert = not commit
is_permitted (Some commit) call = is_end_call call

-- a call that the decision permits, under a number of this epoch that isn't below this one
pub record IsOfEnd (decision : Option Bool) (epoch from : ℕ) (m : Made) : Type 0 where
  pub call : IsTrue (is_permitted decision m.call)
  pub of_epoch : m.at.epoch ≡ epoch
  pub later : from ≤ m.at.number

-- first calls of the rounds, before the decision, and then calls that it permits, under numbers behind those of all
-- messages of the rounds
pub record AreInTurn (decision : Option Bool) (k epoch first : ℕ) (packages : List (List ℕ)) (told : List Told)
    (sent : List Message) : Type 0 where
  pub split : made_in told ≡ made_early told ++ made_late told
  pub of_rounds : IsOfRounds k epoch first packages (made_early told)
  pub within : length (made_early told) ≤ sent_early sent
  pub of_end : AllByRecursion (IsOfEnd decision epoch (first + sent_early sent)) (made_late told)

-- a message of the end phase, of a call that the decision permits
abbrev pub IsEndMessage : Option Bool → Message → Type 0
IsEndMessage decision m = (m.decided ≡ true) × (is_permitted decision m.call ≡ true)

-- all messages, the newest first: those of the end phase behind those of the rounds, and the calls of these, answered
-- or not, are first calls of the rounds
pub record AreSentInTurn (decision : Option Bool) (k : ℕ) (packages : List (List ℕ)) (told : List Told)
    (sent : List Message) : Type 0 where
  pub early : List Message
  pub late : List Message
  pub split : sent ≡ late ++ early
  pub of_rounds : AllByRecursion (λ m. m.decided ≡ false) early
  pub calls : calls_in early ≡ take (length early) (round_calls k (ids_given (made_early told)) packages)
  pub of_end : AllByRecursion (IsEndMessage decision) late

-- the reply shows no session of client 0 and no transfers
abbrev pub shows_rest : Reply → Bool
shows_rest (Synced x) = not (is_masters x.session) && has_none x.transfers
shows_rest _ = false

-- the last entry is a Sync with such a reply
abbrev pub ends_at_rest : List Made → Bool
ends_at_rest [] = false
ends_at_rest (m ∷ []) = is_sync m.call && shows_rest m.reply
ends_at_rest (m ∷ n ∷ ms) = ends_at_rest (n ∷ ms)
