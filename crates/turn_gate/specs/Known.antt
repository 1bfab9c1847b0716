-- What a clause sees of a seat.
use Rattle.std.specs.Prelude.{◌≡◌, ℕ, List, [], ◌∷◌, Option, Some, None}
use Rattle.atomic_table.specs.Seated.{TableId}
use Rattle.turn_gate.specs.declared.view.Account.{Account}
use Rattle.turn_gate.specs.declared.view.View.{View}

-- the gate that it is a seat of, and what its thread knows
pub record Known (E O : Type 0) : Type 0 where
  pub gate : TableId
  pub view : View E O

abbrev pub known : {E O : Type 0} → TableId → View E O → Known E O
known gate view = record { gate = gate; view = view }

-- a gate has the count word and the turn word, and one slot
abbrev pub HasCounts : TableId → Type 0
HasCounts gate = (gate.words ≡ 2) × (gate.slots ≡ 1)

-- a seat has the empty slot while it has the turn, and has then seen all that it holds
abbrev pub HasSlot : {M E : Type 0} → Option (Account E) → List E → List (ℕ × Option M) → Type 0
HasSlot None seen slots = slots ≡ []
HasSlot (Some a) seen slots = (slots ≡ (0, None) ∷ []) × (seen ≡ a.entries)

pub record IsSound {M E O : Type 0} (v : View E O) (slots : List (ℕ × Option M)) : Type 0 where
  pub made : v.fixed ≡ None → ⊥
  pub slot : HasSlot v.held v.seen slots
