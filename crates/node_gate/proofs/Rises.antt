-- What an answer carries covers how far the count of faults rose.
use Rattle.std.proofs.Common.{ℕ, ◌+◌, ◌≤◌, arith}
use Rattle.turn_gate.specs.Parts.{at_most_last}
use Rattle.fault_count.specs.Faults.{HasRisen}
use Rattle.node_store.specs.Answers.{Carries, CarriesWork, IsRise}
use Rattle.node_store.specs.declared.answers.NodeAnswer.{NodeAnswer}
use Rattle.node_store.specs.declared.answers.NodeAnswer.TheVariants.{Reached as Got, NoReply, OutOfMemory}
use Rattle.node_store.specs.declared.answers.WorkAnswer.{WorkAnswer}
use Rattle.node_store.specs.declared.answers.WorkAnswer.TheVariants.{Worked as Did, NoReply as NoWork, OutOfMemory as NoRoom}
use Rattle.node_gate.specs.declared.answers.AskAnswer.{AskAnswer}
use Rattle.node_gate.specs.declared.answers.AskAnswer.TheVariants.{At, NoReply as NoView, OutOfMemory as NoMemory}
use Rattle.node_gate.specs.Calls.{CarriesRise, rise_of, rise_of_ask, rise_of_work}

none-covers : (before now : ℕ) → before ≤ now → at_most_last (before + 0) ≤ now
none-covers before now le = omega (arith, le)

rise-covers : (before now faults : ℕ) → IsRise before now faults → at_most_last (before + faults) ≤ now
rise-covers before now faults c = omega (arith, c.risen, c.rise_is)

pub covers : (a : NodeAnswer) (before now : ℕ) → before ≤ now → Carries a before now
    → at_most_last (before + rise_of a) ≤ now
covers (Got reached) before now le c = none-covers before now le
covers (NoReply faults) before now le c = rise-covers before now faults c
covers OutOfMemory before now le c = none-covers before now le

pub work-covers : (a : WorkAnswer) (before now : ℕ) → before ≤ now → CarriesWork a before now
    → at_most_last (before + rise_of_work a) ≤ now
work-covers (Did worked) before now le c = none-covers before now le
work-covers (NoWork faults) before now le c = rise-covers before now faults c
work-covers NoRoom before now le c = none-covers before now le

pub ask-covers : (a : AskAnswer) (before now : ℕ) → before ≤ now → CarriesRise a before now
    → at_most_last (before + rise_of_ask a) ≤ now
ask-covers (At place answer) before now le c = none-covers before now le
ask-covers (NoView faults) before now le c = rise-covers before now faults c
ask-covers NoMemory before now le c = none-covers before now le

pub at_least_one : (before now faults : ℕ) → IsRise before now faults → 1 ≤ faults
at_least_one before now faults rise = omega (arith, rise.rise_is)

-- a rise in a part of a call is one in the call
pub risen_since : (first before now : ℕ) → first ≤ before → HasRisen before now → HasRisen first now
risen_since first before now le rise = omega (arith, le, rise)
