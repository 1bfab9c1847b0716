use Rattle.std.proofs.Common.{◌≡◌, ◌∙◌, ap, map, sym}
use Rattle.std.specs.List.{insert}
use Rattle.recipe.specs.Packing.{NamedBytes}
use Rattle.recipe.proofs.Attached.{all-attached, vehicle-printed}
use Rattle.recipe.proofs.packing.attached.Goals as goal

pub returns : goal.returns
returns c =
    let made = c.args.made.now in
    let vehicle = c.in_ok-bytes.ensures
    ∙ vehicle-printed made c.steps.result.now c.packages.result.now c.as_slice.result.now c.steps.ensures
    c.packages.ensures.packages (c.as_slice.ensures.value ∙ c.in_ok-all.ensures) in
    c.in_ok-insert.ensures.items
    ∙ ap (λ (a : NamedBytes). insert c.in_ok-all.all.items c.above.result a) c.vehicle.ensures
    ∙ all-attached made c.in_ok-all.all.items c.in_ok-bytes.bytes.items c.packages.result.now c.above.result
    (sym c.if-is_without_step.ensures) c.packages.ensures.packages c.in_ok-all.ensures vehicle c.above.ensures
