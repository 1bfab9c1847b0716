-- What an answer says.
use Rattle.std.specs.Prelude.{◌≡◌, ◌≤◌, ℕ, ⊤, IsSomeAnd, List, None}
use Rattle.std.specs.List.{last_or}
use Rattle.gate_counter.specs.declared.tick.Tick.{Tick}
use Rattle.gate_counter.specs.declared.tick.Answer.{Answer}
use Rattle.gate_counter.specs.declared.tick.Answer.TheVariants.{Counted, NoReply, OutOfMemory}

abbrev pub rise_of : Answer → ℕ
rise_of Counted = 0
rise_of (NoReply faults) = faults
rise_of OutOfMemory = 0

-- after a count the list ends with one of this part; without a reply the device failed
abbrev pub IsTrueOf : ℕ → Answer → List Tick → Type 0
IsTrueOf by Counted ticks = IsSomeAnd (last_or None ticks) (λ t. t.by ≡ by)
IsTrueOf by (NoReply faults) ticks = 1 ≤ faults
IsTrueOf by OutOfMemory ticks = ⊤
