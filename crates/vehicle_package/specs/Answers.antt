-- What readers answer.
use Rattle.std.specs.Prelude.{◌≡◌, ◌⊎◌, IfErr, IfOk, Option, Some, None, Result, Ok, Err}
use Rattle.vehicle_package.specs.declared.fault.VehicleError.{VehicleError}
use Rattle.vehicle_package.specs.declared.fault.VehicleError.TheVariants.{InvalidPlan, OutOfMemory}

-- what is answered, seen so, is the reading
abbrev pub IsExactly : {X Y : Type 0} → (X → Y) → Result X VehicleError → Result Y VehicleError → Type 0
IsExactly view (Ok x) reading = reading ≡ Ok (view x)
IsExactly view (Err e) reading = reading ≡ Err e

-- what is answered is the reading, unless memory was wanting
abbrev pub IsAnswer : {A : Type 0} → Result A VehicleError → Result A VehicleError → Type 0
IsAnswer result reading =
    IfOk result (λ a. reading ≡ Ok a) × IfErr result (λ e. (e ≡ OutOfMemory) ⊎ (reading ≡ Err e))

-- memory was wanting, or the plan is none, for this reason
abbrev pub IsPlanFault : VehicleError → Type 0 → Type 0
IsPlanFault e reason = (e ≡ OutOfMemory) ⊎ ((e ≡ InvalidPlan) × reason)

-- what is answered is what is there, unless memory was wanting
abbrev pub IsPlanRead : {A : Type 0} → Result A VehicleError → Option A → Type 0
IsPlanRead result there = IfOk result (λ a. there ≡ Some a) × IfErr result (λ e. IsPlanFault e (there ≡ None))
