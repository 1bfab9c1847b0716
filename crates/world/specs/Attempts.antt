-- What the attempts of one campaign's rounds make of what was sent to a node and told of it.
use Rattle.std.specs.Prelude.{◌≡◌, ◌⊎◌, ℕ, ⊤, true, false, if◌then◌else◌, List, [], ◌∷◌, ◌++◌, Option, Some, None}
use Rattle.std.specs.Ordering.{is_eq, is_lt}
use Rattle.pm_types.specs.declared.replies.Reply.{Reply}
use Rattle.pm_types.specs.declared.status.Status.{Status}
use Rattle.pm_types.specs.Steps.{call_no_cmp}
use Rattle.world.specs.Messages.{Message, Told, Answered, Showed, is_told}
use Rattle.world.specs.Sends.{one_if, replies_of}

-- a message or a unit of work was tried, and what the master got of it, if anything
pub data Attempt : Type 0 where
  Tried : (message : Message) (reply : Option Reply) → Attempt
  Worked : (status : Option Status) → Attempt

-- what was told, the newest first, as the attempts are
abbrev pub told_by : List Attempt → List Told
told_by [] = []
told_by (Tried m (Some r) ∷ attempts) = Answered m r ∷ told_by attempts
told_by (Tried m None ∷ attempts) = told_by attempts
told_by (Worked (Some s) ∷ attempts) = Showed s ∷ told_by attempts
told_by (Worked None ∷ attempts) = told_by attempts

-- a message that is tried again was sent before
abbrev pub with_sent : Message → List Message → List Message
with_sent m [] = m ∷ []
with_sent m (newest ∷ sent) = if is_eq (call_no_cmp newest.at m.at) then newest ∷ sent else m ∷ newest ∷ sent

-- what was sent, each message once
abbrev pub sent_by : List Attempt → List Message
sent_by [] = []
sent_by (Tried m reply ∷ attempts) = with_sent m (sent_by attempts)
sent_by (Worked status ∷ attempts) = sent_by attempts

-- the replies that were got, the oldest first
abbrev pub replies_by : List Attempt → List Reply
replies_by [] = []
replies_by (Tried m reply ∷ attempts) = replies_by attempts ++ one_if reply
replies_by (Worked status ∷ attempts) = replies_by attempts

-- a message is the one before, which isn't answered, or has a number above it
abbrev pub MayTry : Message → List Told → List Message → Type 0
MayTry m told [] = ⊤
MayTry m told (newest ∷ sent) =
    ((newest ≡ m) × (is_told told m.at ≡ false)) ⊎ (is_lt (call_no_cmp newest.at m.at) ≡ true)

-- each message is of campaign k before its decision, and may be tried after the attempts before it
abbrev pub AreInOrder : ℕ → List Attempt → Type 0
AreInOrder k [] = ⊤
AreInOrder k (Tried m reply ∷ attempts) =
    (m.campaign ≡ k) × (m.decided ≡ false) × MayTry m (told_by attempts) (sent_by attempts) × AreInOrder k attempts
AreInOrder k (Worked status ∷ attempts) = AreInOrder k attempts

-- what was told to the messages that were sent are just the replies that the attempts got, in their order
abbrev pub RepliesAreGot : Type 0
RepliesAreGot =
    (k : ℕ) (attempts : List Attempt) → AreInOrder k attempts
    → replies_of k (told_by attempts) (sent_by attempts) ≡ replies_by attempts
