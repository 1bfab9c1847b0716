-- What a node's calls answer.
use Rattle.std.specs.Prelude.{◌≡◌, ⊤, ℕ, ◌-◌, max, Bool, true, false, List}
use Rattle.fault_count.specs.Faults.{HasRisen}
use Rattle.ucm_base.specs.declared.ids.CallNo.{CallNo}
use Rattle.pm_types.specs.declared.calls.Call.{Call}
use Rattle.pm_types.specs.NodeState.{NodeState}
use Rattle.node_core.specs.Units.{after_work, answer_to}
use Rattle.node_store.specs.Serving.{stepped}
use Rattle.node_store.specs.declared.answers.NodeAnswer.{NodeAnswer}
use Rattle.node_store.specs.declared.answers.NodeAnswer.TheVariants.{Reached, NoReply, OutOfMemory}
use Rattle.node_store.specs.declared.answers.WorkAnswer.{WorkAnswer}
use Rattle.node_store.specs.declared.answers.WorkAnswer.TheVariants.{Worked, NoReply as NoWork, OutOfMemory as NoMemory}

-- what a call answers, and the node afterwards: without memory it is as before
abbrev pub Answers : NodeState → ℕ → CallNo → Call → NodeAnswer → NodeState → Type 0
Answers n client call_no call (Reached reached) after = (after, reached) ≡ stepped n client call_no call
Answers n client call_no call OutOfMemory after = after ≡ n
Answers n client call_no call (NoReply faults) after = ⊤

-- the count of faults has risen by so much; one that stands at its last value counts as one rise
pub record IsRise (before now rise : ℕ) : Type 0 where
  pub risen : HasRisen before now
  pub rise_is : rise ≡ max (now - before) 1

-- an answer without a reply carries the rise, and only a rise gives it
abbrev pub Carries : NodeAnswer → ℕ → ℕ → Type 0
Carries (NoReply faults) before now = IsRise before now faults
Carries _ before now = ⊤

-- whether the node is closed by an answer
abbrev pub closes : NodeAnswer → Bool
closes (NoReply faults) = true
closes _ = false

-- the same of a unit of work
abbrev pub AnswersWork : NodeState → List (List ℕ) → WorkAnswer → NodeState → Type 0
AnswersWork n fails (Worked worked) after = (worked ≡ answer_to fails n) × (after ≡ after_work fails n)
AnswersWork n fails NoMemory after = after ≡ n
AnswersWork n fails (NoWork faults) after = ⊤

abbrev pub CarriesWork : WorkAnswer → ℕ → ℕ → Type 0
CarriesWork (NoWork faults) before now = IsRise before now faults
CarriesWork _ before now = ⊤

abbrev pub closes_work : WorkAnswer → Bool
closes_work (NoWork faults) = true
closes_work _ = false
