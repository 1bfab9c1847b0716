-- What a counter means, and what a count does.
use Rattle.std.specs.Prelude.{ℕ, ◌<◌, List, Option, Some}
use Rattle.turn_gate.specs.Parts.{times, numbers_of, MayBecome}
use Rattle.turn_gate.specs.declared.view.Account.{Account}
use Rattle.turn_gate.specs.declared.view.Part.{Part}
use Rattle.gate_counter.specs.declared.tick.Tick.{Tick}

abbrev pub tells : Tick → Option ℕ
tells t = Some t.by

-- the list went on as a turn of this part may do it
abbrev pub HasCounted : ℕ → Account Tick → Account Tick → ℕ → Type 0
HasCounted by old new rise =
    (parts : List (Part Tick)) → 0 < times by (numbers_of parts) → MayBecome tells parts old new rise
