use Rattle.std.proofs.Common.{◌≡◌, ◌++◌, ◌∷◌, List, [], Option, Some, refl, arith}
use Rattle.std.specs.List.{last_or}
use Rattle.gate_counter.specs.Ticks.{tells}
use Rattle.turn_gate.proofs.Becomes.{stays}
use Rattle.gate_counter.proofs.counter.Counter.count_for.Goals as goal

-- what was added last is the last
last-added : {A : Type 0} (o : Option A) (xs : List A) (x : A) → last_or o (xs ++ x ∷ []) ≡ Some x
last-added o [] x = refl
last-added o (y ∷ ys) x = last-added (Some y) ys x

pub returns-then-len-clause-goes_on : goal.returns-then-len-clause-goes_on
returns-then-len-clause-goes_on c = λ parts some_part. stays tells parts _ _ refl refl (omega arith)

pub returns-in_default-clause-goes_on : goal.returns-in_default-clause-goes_on
returns-in_default-clause-goes_on c =
    λ parts some_part. stays tells parts _ _ c.reserve.ensures.items refl (omega arith)

pub returns-clause-answer : goal.returns-clause-answer
returns-clause-answer c = rw (c.push_reserved.ensures.items, last-added) refl
