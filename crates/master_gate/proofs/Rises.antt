-- What an answer carries covers how far the count of faults rose.
use Rattle.std.proofs.Common.{ℕ, ◌+◌, ◌≤◌, arith}
use Rattle.turn_gate.specs.Parts.{at_most_last}
use Rattle.fault_count.specs.Faults.{HasRisen}
use Rattle.decision_log.specs.Answers.{Carries, IsRise}
use Rattle.decision_log.specs.declared.answers.AddAnswer.{AddAnswer}
use Rattle.decision_log.specs.declared.answers.AddAnswer.TheVariants.{Added, Refused, NoReply, OutOfMemory}
use Rattle.master_gate.specs.declared.answers.LookAnswer.{LookAnswer}
use Rattle.master_gate.specs.declared.answers.LookAnswer.TheVariants.{At, NoReply as NoLook, OutOfMemory as NoMemory}
use Rattle.master_gate.specs.Adds.{CarriesRise, rise_of, rise_of_look}

pub covers : (a : AddAnswer) (before now : ℕ) → before ≤ now → Carries a before now
    → at_most_last (before + rise_of a) ≤ now
covers Added before now le c = omega (arith, le)
covers (Refused r) before now le c = omega (arith, le)
covers (NoReply faults) before now le c = omega (arith, c.1)
covers OutOfMemory before now le c = omega (arith, le)

pub look_covers : (a : LookAnswer) (before now : ℕ) → before ≤ now → CarriesRise a before now
    → at_most_last (before + rise_of_look a) ≤ now
look_covers (At place view) before now le c = omega (arith, le)
look_covers (NoLook faults) before now le c = omega (arith, c.1)
look_covers NoMemory before now le c = omega (arith, le)

pub at_least_one : (before now faults : ℕ) → IsRise before now faults → 1 ≤ faults
at_least_one before now faults rise = omega (arith, rise.0)

-- a rise in a part of a call is one in the call
pub risen_since : (first before now faults : ℕ) → first ≤ before → IsRise before now faults → HasRisen first now
risen_since first before now faults le rise = omega (arith, le, rise.0, rise.1)
