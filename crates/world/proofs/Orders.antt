-- Call numbers in their order, and what is in a list.
use Rattle.std.specs.Prelude.{◌≡◌, ◌⊎◌, zero, suc, ◌<◌, Bool, List, [], ◌∷◌, Contains}
use Rattle.std.proofs.Common.{inl, inr, arith, sym}
use Rattle.std.specs.Ordering.{is_eq, is_lt}
use Rattle.ucm_base.specs.declared.ids.CallNo.{CallNo}
use Rattle.pm_types.specs.Steps.{call_no_cmp}

abbrev pub no_lt : CallNo → CallNo → Bool
no_lt a b = is_lt (call_no_cmp a b)

abbrev pub no_eq : CallNo → CallNo → Bool
no_eq a b = is_eq (call_no_cmp a b)

-- a is below b
abbrev pub IsBelow : CallNo → CallNo → Type 0
IsBelow a b = (a.epoch < b.epoch) ⊎ ((a.epoch ≡ b.epoch) × (a.number < b.number))

abbrev pub IsIn : {A : Type 0} → A → List A → Type 0
IsIn x [] = ⊥
IsIn x (y ∷ ys) = (x ≡ y) ⊎ IsIn x ys

pub in-contained : {A : Type 0} (x : A) (xs : List A) → Contains xs x → IsIn x xs
in-contained x [] (k, low, is) = absurd (omega (arith, low))
in-contained x (y ∷ ys) (zero, low, is) = inl (sym is)
in-contained x (y ∷ ys) (suc k, low, is) = inr (in-contained x ys (k, omega (arith, low), is))
