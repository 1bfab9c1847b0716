-- Seats of a counter's gate.
use Rattle.std.specs.Prelude.{◌≡◌, ℕ, List, [], ◌∷◌, None}
use Rattle.atomic_table.specs.Seated.{TableId}
use Rattle.turn_gate.specs.Known.{Known}
use Rattle.turn_gate.specs.Parts.{numbers_of}
use Rattle.gate_counter.specs.declared.tick.Tick.{Tick}

-- the seat is at rest, and has just this part of the gate
pub record IsSeatOf (gate : TableId) (by : ℕ) (s : Known Tick ℕ) : Type 0 where
  pub ours : s.gate ≡ gate
  pub rests : s.view.held ≡ None
  pub part : numbers_of s.view.parts ≡ by ∷ []

-- one seat for each part, in order
abbrev pub AreSeatsOf : TableId → List ℕ → List (Known Tick ℕ) → Type 0
AreSeatsOf gate [] [] = Unit {0}
AreSeatsOf gate [] (s ∷ ss) = ⊥
AreSeatsOf gate (n ∷ ns) [] = ⊥
AreSeatsOf gate (n ∷ ns) (s ∷ ss) = IsSeatOf gate n s × AreSeatsOf gate ns ss
