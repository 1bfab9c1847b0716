-- What a driver was given since it was made, the newest first, and what its attempts made of it.
use Rattle.std.specs.Prelude.{◌≡◌, ℕ, ◌<◌, ◌≤◌, ⊤, Bool, true, false, if◌then◌else◌, is_some, List, [], ◌∷◌, length, Option, Some, None}
use Rattle.ucm_base.specs.declared.ids.CallNo.{CallNo}
use Rattle.pm_types.specs.declared.replies.Reply.{Reply}
use Rattle.pm_types.specs.declared.status.Status.{Status}
use Rattle.world.specs.Messages.{Message, Told}
use Rattle.world.specs.Attempts.{Attempt, Tried, Worked, told_by, sent_by, replies_by}
use Rattle.sub_core.specs.declared.answers.Got.{Got}
use Rattle.sub_core.specs.declared.answers.PackageSize.{PackageSize}
use Rattle.sub_core.specs.declared.answers.Round.{Round}
use Rattle.sub_core.specs.declared.answers.SendStep.{SendStep}
use Rattle.sub_core.specs.declared.answers.Todo.{Todo}
use Rattle.sub_core.specs.declared.progress.Progress.{Progress}
use Rattle.sub_core.specs.Calls.{AreThere, call_of}
use Rattle.sub_core.specs.Driving.{CanBegin, begun, fresh, has_number, is_answer, status_of, step, todo, unanswered}
use Rattle.sub_core.specs.States.{DriverState, number_limit}

-- what a driver is made for
pub record Task : Type 0 where
  pub epoch : ℕ
  pub first : ℕ
  pub campaign : ℕ
  pub steps : List PackageSize

-- a task over these packages
pub record IsTask (lent : List (List ℕ)) (task : Task) : Type 0 where
  pub numbers : task.first ≤ number_limit
  pub some : 0 < length task.steps
  pub there : AreThere lent task.steps

-- a round began, or an attempt gave an answer, or nothing for want of memory
pub data Given : Type 0 where
  Begun : (round : Round) → Given
  Gave : (got : Got) → Given
  GaveNothing : Given

abbrev pub given : Given → DriverState → DriverState
given (Begun round) d = begun round d
given (Gave got) d = step got d
given GaveNothing d = unanswered d

-- a driver that has been given these since
abbrev pub since : DriverState → List Given → DriverState
since d [] = d
since d (g ∷ gs) = given g (since d gs)

-- the driver that was given these since it was made
abbrev pub after : Task → List Given → DriverState
after task gs = since (fresh task.epoch task.first task.campaign task.steps) gs

abbrev pub is_asked : Todo → Bool
is_asked (Todo.Rest finding) = false
is_asked _ = true

-- a round has begun, and a call or a unit is asked for
pub record Asks (d : DriverState) : Type 0 where
  pub begun : is_some d.round ≡ true
  pub number : has_number d ≡ true
  pub asked : is_asked (todo d) ≡ true

-- rounds begin in their order, and attempts are made at what is asked
abbrev pub MayBe : Given → DriverState → Type 0
MayBe (Begun round) d = CanBegin round d
MayBe (Gave got) d = Asks d
MayBe GaveNothing d = Asks d

abbrev pub AreGiven : Task → List Given → Type 0
AreGiven task [] = ⊤
AreGiven task (g ∷ gs) = MayBe g (after task gs) × AreGiven task gs

abbrev pub is_ending : Progress → Bool
is_ending (Progress.Ending commit at) = true
is_ending _ = false

-- the message of a step
abbrev pub message_of : List (List ℕ) → DriverState → CallNo → SendStep → Message
message_of lent d call_no asked = record {
  at = call_no;
  call = call_of lent asked;
  campaign = d.campaign;
  decided = is_ending d.progress;
}

-- the reply that counts, if an answer has one
abbrev pub reply_got : SendStep → Got → Option Reply
reply_got asked (Got.Replied reply) = if is_answer asked reply then Some reply else None
reply_got asked _ = None

-- the status, if an answer has one
abbrev pub status_got : Got → Option Status
status_got (Got.UnitOf unit) = Some (status_of unit)
status_got _ = None

-- an attempt at what is asked, with the answer that it gave
abbrev pub with_answer : List (List ℕ) → DriverState → Todo → Got → List Attempt → List Attempt
with_answer lent d (Todo.Send call_no asked) got older =
    Tried (message_of lent d call_no asked) (reply_got asked got) ∷ older
with_answer lent d Todo.Unit got older = Worked (status_got got) ∷ older
with_answer lent d (Todo.Rest finding) got older = older

-- or without one
abbrev pub with_none : List (List ℕ) → DriverState → Todo → List Attempt → List Attempt
with_none lent d (Todo.Send call_no asked) older = Tried (message_of lent d call_no asked) None ∷ older
with_none lent d Todo.Unit older = Worked None ∷ older
with_none lent d (Todo.Rest finding) older = older

abbrev pub with_given : List (List ℕ) → DriverState → Given → List Attempt → List Attempt
with_given lent d (Begun round) older = older
with_given lent d (Gave got) older = with_answer lent d (todo d) got older
with_given lent d GaveNothing older = with_none lent d (todo d) older

-- the attempts at a driver's calls and units, the newest first
abbrev pub attempts : List (List ℕ) → Task → List Given → List Attempt
attempts lent task [] = []
attempts lent task (g ∷ gs) = with_given lent (after task gs) g (attempts lent task gs)

-- what was told to the master by them, and what was sent, the newest first
abbrev pub told_of : List (List ℕ) → Task → List Given → List Told
told_of lent task gs = told_by (attempts lent task gs)

abbrev pub sent_of : List (List ℕ) → Task → List Given → List Message
sent_of lent task gs = sent_by (attempts lent task gs)

-- the replies, the oldest first
abbrev pub replies_to : List (List ℕ) → Task → List Given → List Reply
replies_to lent task gs = replies_by (attempts lent task gs)
