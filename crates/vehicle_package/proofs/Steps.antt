-- A reading goes on where a step was not refused.
use Rattle.std.proofs.Common.{◌≡◌, ℕ, Bool, true, false, cond, Option, Some, None, Result, Ok, Err, refl, ap}
use Rattle.std.specs.Prelude.{ok_or}
use Rattle.vehicle_package.specs.Fields.{◌>>=◌}
use Rattle.vehicle_package.specs.declared.fault.VehicleError.{VehicleError}

abbrev done : {A : Type 0} → A → Result A VehicleError
done x = Ok x

pub ok_is : {A : Type 0} (x y : A) → done x ≡ done y → x ≡ y
ok_is x y e = cc

-- the value of a step that was not refused
pub bind_ok : {A B : Type 0} (r : Result A VehicleError) (f : A → Result B VehicleError) (y : B) → (r >>= f) ≡ Ok y
    → (x : A) × (r ≡ Ok x) × (f x ≡ Ok y)
bind_ok (Ok x) f y e = (x, refl, e)
bind_ok (Err d) f y e = absurd cc

-- a test that did not refuse
pub guard_ok : {A : Type 0} (b : Bool) (d : VehicleError) (r : Result A VehicleError) (y : A) → cond b (Err d) r ≡ Ok y
    → (b ≡ false) × (r ≡ Ok y)
guard_ok true d r y e = absurd cc
guard_ok false d r y e = (refl, e)

pub cond_ok : {A : Type 0} (b : Bool) (d : VehicleError) (x y : A) → cond b (Ok x) (Err d) ≡ Ok y → (b ≡ true) × (x ≡ y)
cond_ok true d x y e = (refl, ok_is x y e)
cond_ok false d x y e = absurd cc

pub ok_some : {A : Type 0} (o : Option A) (d : VehicleError) (y : A) → ok_or o d ≡ Ok y → o ≡ Some y
ok_some None d y e = absurd cc
ok_some (Some x) d y e = ap (λ z. Some z) (ok_is x y e)

pub never-both : {A : Type 0} (read : Result A VehicleError) (x : A) (e : VehicleError) → read ≡ Ok x → read ≡ Err e → ⊥
never-both (Ok y) x e is refused = cc
never-both (Err d) x e is refused = cc
