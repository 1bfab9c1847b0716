-- A plan of a disk's faults, and names, as numbers.
use Rattle.std.specs.Prelude.{ℕ, List, [], ◌∷◌}
use Rattle.disk_core.specs.declared.plan.FailKind.{FailKind}
use Rattle.disk_core.specs.declared.plan.FaultPlan.{FaultPlan}
use Rattle.turn_gate.specs.InOne.{in_one}

abbrev pub kind_number : FailKind → ℕ
kind_number FailKind.Read = 0
kind_number FailKind.Write = 1
kind_number FailKind.Sync = 2

-- each stop as its write and the bytes that stay
abbrev pub stop_numbers : List (ℕ × ℕ) → List ℕ
stop_numbers [] = []
stop_numbers (s ∷ ss) = s.0 ∷ s.1 ∷ stop_numbers ss

-- each failure as its kind and its call
abbrev pub fail_numbers : List (FailKind × ℕ) → List ℕ
fail_numbers [] = []
fail_numbers (f ∷ fs) = kind_number f.0 ∷ f.1 ∷ fail_numbers fs

-- the stops, the failures, then the names
abbrev pub fixed_numbers : List (List ℕ) → FaultPlan → List ℕ
fixed_numbers names p = in_one (stop_numbers p.stops ∷ fail_numbers p.fails ∷ names)

-- the plan alone
abbrev pub plan_numbers : FaultPlan → List ℕ
plan_numbers p = fixed_numbers [] p
