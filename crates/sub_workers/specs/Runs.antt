-- What a worker did.
use Rattle.std.specs.Prelude.{◌≡◌, ◌⊎◌, ℕ, ◌+◌, ◌≤◌, ⊤, false, List, [], ◌∷◌, ◌++◌, Option, Some, None}
use Rattle.std.specs.List.{AllByRecursion}
use Rattle.ucm_base.specs.declared.ids.CallNo.{CallNo}
use Rattle.pm_types.specs.declared.calls.Call.{Call}
use Rattle.sub_core.specs.declared.answers.Finding.{Finding}
use Rattle.sub_core.specs.declared.answers.Rises.{Rises}
use Rattle.sub_core.specs.declared.answers.Round.{Round}
use Rattle.sub_core.specs.declared.answers.Todo.{Todo}
use Rattle.sub_core.specs.declared.subordinate.Sent.{Sent}
use Rattle.sub_core.specs.declared.subordinate.UnitSent.{UnitSent}
use Rattle.sub_core.specs.Calls.{bytes_of, AreThere, IsBlock}
use Rattle.sub_core.specs.Driving.{begun, has_number, next_no, todo, CanBegin}
use Rattle.sub_core.specs.Given.{AreGiven, Asks, Begun, Gave, GaveNothing, Given, Task, after, since}
use Rattle.sub_core.specs.Numbers.{IsNotBelow}
use Rattle.sub_core.specs.States.{DriverState}
use Rattle.sub_core.specs.Failures.{faults_in, losses_in}
use Rattle.sub_core.specs.Subordinates.{Counted, HasRisenBy, IsNoFewer}
use Rattle.sub_workers.specs.declared.sending.Attempt.{Attempt}
use Rattle.sub_workers.specs.declared.worker.Worker.{Worker}
use Rattle.sub_workers.specs.Attempts.{IsTried}

-- a worker that may go on: its packages are those of its driver's steps, and its numbers go on from those sent
pub record IsReady {U : Type 0} (ready : U → Type 0) (last : U → Option CallNo) (w : Worker U) : Type 0 where
  pub subordinate : ready w.subordinate
  pub packages : AreThere (bytes_of w.packages.now) w.driver.steps
  pub number : IsNotBelow (last w.subordinate) (next_no w.driver)

-- its driver, its packages and what it found are as before
pub record IsSameWorker {U : Type 0} (old new : Worker U) : Type 0 where
  pub driver : new.driver ≡ old.driver
  pub packages : new.packages ≡ old.packages
  pub found : new.found ≡ old.found

-- and whose driver may begin this round
abbrev pub MayBegin : {U : Type 0} → (U → Type 0) → (U → Option CallNo) → Round → Worker U → Type 0
MayBegin ready last round w = IsReady ready last w × CanBegin round w.driver

-- each failed attempt of a row had a loss or a fault, no count has fallen, and the counts rose by the sums or stand at
-- their last values
pub record AreCounted (misses : List Rises) (before now : Counted) : Type 0 where
  pub each : AllByRecursion (λ r. 1 ≤ r.losses + r.faults) misses
  pub counts : IsNoFewer before now
  pub losses : HasRisenBy (losses_in misses) before.losses now.losses
  pub faults : HasRisenBy (faults_in misses) before.faults now.faults

-- a block is to be sent, which is copied first
abbrev pub AsksBlock : Todo → Type 0
AsksBlock (Todo.Send at step) = IsBlock step
AsksBlock asked = ⊥

-- the newest attempt gave nothing
abbrev pub EndsVain : List Given → Type 0
EndsVain (GaveNothing ∷ given) = ⊤
EndsVain given = ⊥

-- an attempt gave an answer
abbrev pub IsAnswered : Given → Type 0
IsAnswered (Gave got) = ⊤
IsAnswered _ = ⊥

-- each attempt but the newest did: a worker stops where memory is wanting
abbrev pub EndsAtVain : List Given → Type 0
EndsAtVain [] = ⊤
EndsAtVain (g ∷ given) = AllByRecursion IsAnswered given

-- why a worker stops: no number is left for what its driver asks, or memory was wanting, for the answer to the newest
-- attempt or for the copy of the block that comes next
abbrev pub HasCause : DriverState → List Given → Type 0
HasCause d given = (has_number d ≡ false) ⊎ (EndsVain given ⊎ AsksBlock (todo d))

-- the worker holds what its driver finds, or nothing, with the cause
abbrev pub Holds : {U : Type 0} → Worker U → List Given → Type 0
Holds w given =
    ((finding : Finding) × (todo w.driver ≡ Todo.Rest finding) × (w.found ≡ Some finding))
    ⊎ ((w.found ≡ None) × HasCause w.driver given)

module _ {U : Type 0} (last : U → Option CallNo) (counted : U → Counted) (sends : U → CallNo → Call → Sent → U → Type 0)
    (works : U → UnitSent → U → Type 0) where
  -- what an attempt gave
  abbrev pub IsAttempt : List (List ℕ) → Todo → Attempt → U → U → Type 0
  IsAttempt packages asked (Attempt.Gave got) s t = IsTried last counted sends works packages asked (Some got) s t
  IsAttempt packages asked Attempt.GaveNothing s t = IsTried last counted sends works packages asked None s t
  IsAttempt packages asked (Attempt.Rests finding) s t = (asked ≡ Todo.Rest finding) × (t ≡ s)
  IsAttempt packages asked Attempt.OutOfMemory s t = (t ≡ s) × AsksBlock asked

  -- a driver that asks for something is given what an attempt at it gave
  abbrev pub IsGiven : List (List ℕ) → DriverState → Given → U → U → Type 0
  IsGiven packages d (Begun round) s t = ⊥
  IsGiven packages d (Gave got) s t = Asks d × IsTried last counted sends works packages (todo d) (Some got) s t
  IsGiven packages d GaveNothing s t = Asks d × IsTried last counted sends works packages (todo d) None s t

  -- from one state to the other by just these attempts, the newest first, from this driver on
  abbrev pub Goes : List (List ℕ) → DriverState → List Given → U → U → Type 0
  Goes packages start [] s t = t ≡ s
  Goes packages start (g ∷ gs) s t =
      (m : U) × Goes packages start gs s m × IsGiven packages (since start gs) g m t

  -- the worker went on from its subordinate's state, its driver was given just these, and it holds what this found
  pub record Drove (start : DriverState) (old new : Worker U) : Type 0 where
    pub packages : new.packages ≡ old.packages
    pub round : new.driver.round ≡ start.round
    pub given : List Given
    pub goes : Goes (bytes_of old.packages.now) start given old.subordinate new.subordinate
    pub vain : EndsAtVain given
    pub driver : new.driver ≡ since start given
    pub holds : Holds new given

  -- the worker did this round
  pub record Ran (round : Round) (old new : Worker U) : Type 0 where
    pub drove : Drove (begun round old.driver) old new
    pub round_kept : new.driver.round ≡ Some round
    -- what its driver missed in a row, eight times where this rests with Unreached, is in the counts
    pub misses : AreCounted new.driver.misses (counted old.subordinate) (counted new.subordinate)
    -- what its driver was given in all goes on by the round and these
    pub driver : (task : Task) (before : List Given) → old.driver ≡ after task before → AreGiven task before
        → AreGiven task (drove.given ++ Begun round ∷ before)
        × (new.driver ≡ after task (drove.given ++ Begun round ∷ before))
