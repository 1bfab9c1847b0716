-- Lists of seats, as clauses see them.
use Rattle.std.specs.Prelude.{◌≡◌, ◌⊎◌, ℕ, ◌+◌, List, [], ◌∷◌, ◌++◌, Option, None, IfSome}
use mathlib.Core.List.{IsPrefix}
use Rattle.atomic_table.specs.Seated.{TableId}
use Rattle.turn_gate.specs.Known.{Known, known}
use Rattle.turn_gate.specs.Parts.{numbers_of, times}
use Rattle.turn_gate.specs.declared.view.Fixed.{Fixed}
use Rattle.turn_gate.specs.declared.view.Part.{Part}
use Rattle.turn_gate.specs.declared.view.View.{View}

module _ {E O : Type 0} where
  -- one seat for each of the parts, in order, with this part
  abbrev pub one_each : TableId → (List (Part E) → View E O) → List (Part E) → List (Known E O)
  one_each gate view [] = []
  one_each gate view (p ∷ ps) = known gate (view (p ∷ [])) ∷ one_each gate view ps

  -- each seat is of this gate, and doesn't have the turn
  abbrev pub AllRest : TableId → List (Known E O) → Type 0
  AllRest gate [] = Unit {0}
  AllRest gate (s ∷ ss) = ((s.gate ≡ gate) × (s.view.held ≡ None)) × AllRest gate ss

  abbrev pub parts_in : List (Known E O) → List (Part E)
  parts_in [] = []
  parts_in (s ∷ ss) = s.view.parts ++ parts_in ss

  abbrev pub notes_in : List (Known E O) → List (ℕ × ℕ)
  notes_in [] = []
  notes_in (s ∷ ss) = s.view.notes ++ notes_in ss

  abbrev pub rises_in : List (Known E O) → ℕ
  rises_in [] = 0
  rises_in (s ∷ ss) = s.view.rises + rises_in ss

  -- the first of the seats tells what the making fixed
  abbrev pub fixed_in : List (Known E O) → Option (Fixed O)
  fixed_in [] = None
  fixed_in (s ∷ ss) = s.view.fixed

  -- the seats together have each part of the making
  abbrev pub HaveAll : List (Known E O) → Type 0
  HaveAll [] = ⊥
  HaveAll (s ∷ ss) =
      IfSome s.view.fixed (λ f. (n : ℕ) → times n (numbers_of (parts_in (s ∷ ss))) ≡ times n f.all)

  -- what each has seen is a beginning of the list
  abbrev pub AllSawBeginnings : List E → List (Known E O) → Type 0
  AllSawBeginnings g [] = Unit {0}
  AllSawBeginnings g (s ∷ ss) = IsPrefix s.view.seen g × AllSawBeginnings g ss

  -- one of them has seen the list
  abbrev pub OneSaw : List E → List (Known E O) → Type 0
  OneSaw g [] = ⊥
  OneSaw g (s ∷ ss) = (s.view.seen ≡ g) ⊎ OneSaw g ss
