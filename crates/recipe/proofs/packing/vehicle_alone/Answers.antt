use Rattle.std.proofs.Common.{◌∙◌, ap, refl, sym, Ok}
use Rattle.recipe.proofs.Attached.{vehicle-printed}
use Rattle.recipe.proofs.packing.vehicle_alone.Goals as goal

pub returns-clause-vehicle : goal.returns-clause-vehicle
returns-clause-vehicle c =
    let made = c.args.made.now in
    let vehicle = c.in_ok-vehicle_bytes.ensures
    ∙ vehicle-printed made c.steps.result.now c.packages.result.now c.as_slice.result.now c.steps.ensures
    c.packages.ensures.packages (c.as_slice.ensures.value ∙ c.in_ok-packages.ensures) in
    rw (← c.if-is_without_step.ensures) (ap (λ bytes. Ok bytes) (sym vehicle))
