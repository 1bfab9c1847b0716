-- The master's calls on a node: those of the rounds, and then those that came later.
use Rattle.std.specs.Prelude.{◌≡◌, ◌⊎◌, ⊤, if◌then◌else◌, List, [], ◌∷◌, ◌++◌, map, Option, Some, None}
use Rattle.std.specs.List.{AllByRecursion}
use Rattle.ucm_base.specs.declared.ids.CallNo.{CallNo}
use Rattle.pm_types.specs.declared.replies.Reply.{Reply}
use Rattle.world.specs.Messages.{Message, Told, is_told}
use Rattle.sub_core.specs.Made.{Made, made_early}
use Rattle.client_calls.specs.Calls.{AreBelow, IsBelow, Known, Posted, entry_of}
use Rattle.client_calls.specs.Arrivals.{IsOf}

-- what the rounds came to: the calls that were answered, and the message that wasn't
pub record Rounds : Type 0 where
  pub answered : List Made
  pub pending : Option Posted

-- before the first call
abbrev pub no_rounds : Rounds
no_rounds = record { answered = []; pending = None }

-- the entries of the rounds: the answered calls, and maybe that of the pending message
abbrev pub AreFirst : Rounds → List Made → Type 0
AreFirst rounds mine =
    (mine ≡ rounds.answered)
    ⊎ ((p : Posted) × (reply : Reply) × (rounds.pending ≡ Some p) × (mine ≡ rounds.answered ++ entry_of p reply ∷ []))

-- in doubt is the entry of a later message, or of the pending one, where nothing came after the answered calls
abbrev pub IsDoubtIn : Rounds → List Posted → List Made → List Made → Option Made → Type 0
IsDoubtIn rounds later first ends None = ⊤
IsDoubtIn rounds later first ends (Some d) =
    IsOf later d
    ⊎ ((p : Posted) × (reply : Reply) × (rounds.pending ≡ Some p) × (d ≡ entry_of p reply) × (first ≡ rounds.answered)
    × (ends ≡ []))

-- the entries of the rounds, and then entries of later messages
pub record InTurn (rounds : Rounds) (later : List Posted) (known : Known) : Type 0 where
  pub first : List Made
  pub ends : List Made
  pub split : known.mine ≡ first ++ ends
  pub of_rounds : AreFirst rounds first
  pub of_later : AllByRecursion (IsOf later) ends
  pub doubt : IsDoubtIn rounds later first ends known.doubt

-- a call among these has the number
abbrev pub HasNumber : CallNo → List Made → Type 0
HasNumber at [] = ⊥
HasNumber at (m ∷ ms) = (m.at ≡ at) ⊎ HasNumber at ms

-- a message of the rounds is answered or is the pending one
abbrev pub IsEarly : Rounds → Posted → Type 0
IsEarly rounds p = HasNumber p.at rounds.answered ⊎ (rounds.pending ≡ Some p)

-- a later message is above all of the rounds
pub record IsLater (rounds : Rounds) (p : Posted) : Type 0 where
  pub answered : AreBelow rounds.answered p.at
  pub pending : (q : Posted) → rounds.pending ≡ Some q → IsBelow q.at p.at

abbrev pub post_of : Message → Posted
post_of m = record { at = m.at; call = m.call }

-- the messages that were sent, those before the decision, and those after it
abbrev pub posts_in : List Message → List Posted
posts_in sent = map post_of sent

abbrev pub early_in : List Message → List Posted
early_in [] = []
early_in (m ∷ sent) = if m.decided then early_in sent else post_of m ∷ early_in sent

abbrev pub late_in : List Message → List Posted
late_in [] = []
late_in (m ∷ sent) = if m.decided then post_of m ∷ late_in sent else late_in sent

-- the newest of these, where it isn't answered
abbrev pub pending_of : List Told → List Posted → Option Posted
pending_of told [] = None
pending_of told (p ∷ ps) = if is_told told p.at then None else Some p

-- what the rounds came to, by what was told and what was sent
abbrev pub rounds_of : List Told → List Message → Rounds
rounds_of told sent = record { answered = made_early told; pending = pending_of told (early_in sent) }
