use Rattle.std.proofs.Common.{◌≡◌, ◌+◌, ◌-◌, ◌∙◌, ap, arith, length, sym}
use Rattle.std.specs.Prelude.{nat_le, sum_by}
use Rattle.vehicle_package.specs.Plan.{plan_text}
use Rattle.recipe.specs.Made.{MadeOf}
use Rattle.recipe.proofs.Sizes.{packages-decide, placed, plan-decides}
use Rattle.recipe.proofs.made.Made.is_within.Goals as goal

pub returns : goal.returns
returns c =
    let made = c.args.self.now in
    let steps = c.as_slice.ensures.value ∙ ap (λ (m : MadeOf). m.steps) c.self.view_is in
    let len = ap length (c.as_slice-text.ensures.value ∙ c.in_ok-plan.ensures.text ∙ ap plan_text steps) in
    let packages = c.as_slice-2.ensures.value ∙ ap (λ (m : MadeOf). m.packages) c.self.view_is in
    let room = 33554390 - length c.as_slice-text.result.now in
    c.fit.ensures ∙ ap (λ ps. nat_le (sum_by placed ps) room) packages
    ∙ sym (packages-decide made room (sym c.if-is_without_step.ensures) (omega (arith, len, c.if-size-room.false)))

pub returns-then-size-room : goal.returns-then-size-room
returns-then-size-room c =
    let made = c.args.self.now in
    let steps = c.as_slice.ensures.value ∙ ap (λ (m : MadeOf). m.steps) c.self.view_is in
    let len = ap length (c.as_slice-text.ensures.value ∙ c.in_ok-plan.ensures.text ∙ ap plan_text steps) in
    sym (plan-decides made (sym c.if-is_without_step.ensures) (omega (arith, len, c.if-size-room.true)))
