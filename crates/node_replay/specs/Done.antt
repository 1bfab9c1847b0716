-- What a replay did: for each line what it gave, and what it added to the history, the newest first.
use Rattle.std.specs.Prelude.{◌≡◌, ◌⊎◌, ℕ, zero, suc, ◌<◌, ◌≤◌, ⊤, List, [], ◌∷◌, ◌++◌, length, Option, Some, None}
use Rattle.std.specs.List.{AllByRecursion}
use Rattle.disk_core.specs.Images.{EachImage}
use Rattle.fault_count.specs.Faults.{HasRisen}
use Rattle.ucm_base.specs.Limits.{client_limit}
use Rattle.pm_types.specs.declared.history.Entry.{Entry}
use Rattle.pm_types.specs.Histories.{state_after}
use Rattle.pm_types.specs.NodeState.{NodeState}
use Rattle.node_core.specs.Packages.{package_reading}
use Rattle.node_store.specs.Serving.{ServesEither}
use Rattle.scenario.specs.declared.events.Event.{Event}
use Rattle.scenario.specs.declared.events.Event.TheVariants.{Call}
use Rattle.scenario.specs.declared.events.EventLine.{EventLine}
use Rattle.scenario.specs.declared.script.Script.{Script}
use Rattle.node_replay.specs.declared.given.Given.{Given}
use Rattle.node_replay.specs.Lines.{answer_line, begun, entry_of, given_by, texts_of}

-- a line, what it gave, the entries that it added, and the count of the disk's faults behind it
pub record Did : Type 0 where
  pub line : EventLine
  pub given : Option Given
  pub added : List Entry
  pub faults : ℕ

abbrev pub lines_of : List Did → List EventLine
lines_of [] = []
lines_of (d ∷ done) = lines_of done ++ d.line ∷ []

-- the node's history
abbrev pub history_of : List Did → List Entry
history_of [] = []
history_of (d ∷ done) = history_of done ++ d.added

-- what is printed
abbrev pub text_of : ℕ → List Did → List ℕ
text_of start [] = []
text_of start (d ∷ done) = text_of start done ++ answer_line start d.line.line d.given

-- the count of faults behind the lines, where this one stood before them
abbrev pub faults_behind : ℕ → List Did → ℕ
faults_behind before [] = before
faults_behind before (d ∷ done) = d.faults

-- a line gives what its event gives the node, whose entry it adds; without a reply, which takes a fault of the disk,
-- the entry may stand or be absent
abbrev pub IsGiven : Given → List Entry → Option Given → List Entry → ℕ → ℕ → Type 0
IsGiven given entry (Some g) added before now = (g ≡ given) × (added ≡ entry) × (before ≤ now)
IsGiven given entry None added before now = ((added ≡ []) ⊎ (added ≡ entry)) × HasRisen before now

-- each line does so after the entries of the lines before it
abbrev pub AreDone : Script → List ℕ → NodeState → ℕ → List Did → Type 0
AreDone script attached start before [] = ⊤
AreDone script attached start before (d ∷ done) =
    let n = state_after package_reading start (history_of done) in
    IsGiven (given_by script attached n d.line.event) (entry_of script attached n d.line.event) d.given d.added
    (faults_behind before done) d.faults × AreDone script attached start before done

-- a call's client is one that there is
abbrev pub IsOfClient : Event → Type 0
IsOfClient (Call client call_no call) = client < client_limit
IsOfClient _ = ⊤

abbrev pub AreOfClients : List Did → Type 0
AreOfClients done = AllByRecursion (λ d. IsOfClient d.line.event) done

-- these lines were done, and printed this
pub record IsDoneOf (script : Script) (attached : List ℕ) (lines : List EventLine) (text : List ℕ) (before now : ℕ)
    (done : List Did) : Type 0 where
  pub lines_are : lines_of done ≡ lines
  pub each : AreDone script attached (begun attached script.installed) before done
  pub text_is : text ≡ text_of script.time done
  pub faults : faults_behind before done ≤ now

-- the node behind them
abbrev pub node_behind : Script → List ℕ → List Did → NodeState
node_behind script attached done = state_after package_reading (begun attached script.installed) (history_of done)

-- a replay did and printed this: without the event of the last line that has no reply, if it isn't known whether it
-- stands, or with it, and each image serves for one of these nodes; without a fault it printed the fold of the events
pub record IsReplayed (script : Script) (attached : List ℕ) (lines : List EventLine) (text : List ℕ) (before now : ℕ)
    (images : List ℕ → Type 0) : Type 0 where
  pub done : List Did
  pub also : List Did
  pub done_so : IsDoneOf script attached lines text before now done
  pub also_so : IsDoneOf script attached lines text before now also
  pub pending : List Entry
  pub few : length pending ≤ 1
  pub more : history_of also ≡ history_of done ++ pending
  pub serves : EachImage images
      (ServesEither (node_behind script attached done) (node_behind script attached also))
  pub calm : (HasRisen before now → ⊥) → text ≡ texts_of script attached (begun attached script.installed) lines

-- so many attempts in a row raised the count of faults
abbrev pub RoseIn : ℕ → ℕ → ℕ → Type 0
RoseIn zero before now = before ≤ now
RoseIn (suc attempts) before now = (between : ℕ) × RoseIn attempts before between × HasRisen between now
