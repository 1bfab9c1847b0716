use Rattle.std.proofs.Common.{◌∙◌, sym, ◌++◌}
use Rattle.vehicle_package.proofs.Twice.{at_step, changed_more, goes_below, is_first}
use Rattle.vehicle_package.proofs.changes.twice_in.Goals as goal

pub returns-then-is_some : goal.returns-then-is_some
returns-then-is_some c =
    let packages = c.args.packages.now in
    let steps = c.args.steps.now in
    let at = c.steps.step-index in
    let is = at_step packages steps at c.step-item.result c.as_slice.result.now c.as_slice-in-steps.result.now
    c.steps-test.true c.step-item.is (c.as_slice.ensures.value ∙ c.steps.invariant.above)
    (c.as_slice-in-steps.ensures.value ∙ c.in_ok-changes.ensures) in
    is_first packages steps at c.again_in-again.result c.steps-test.true (is ∙ sym c.again_in-again.ensures)
    (sym c.if-is_some.true ∙ c.is_some.ensures) c.steps.invariant.below

pub steps-preserved : goal.steps-preserved
steps-preserved c =
    let packages = c.args.packages.now in
    let steps = c.args.steps.now in
    let at = c.steps.step-index in
    let is = at_step packages steps at c.step-item.result c.as_slice.result.now c.as_slice-in-steps.result.now
    c.steps-test.true c.step-item.is (c.as_slice.ensures.value ∙ c.steps.invariant.above)
    (c.as_slice-in-steps.ensures.value ∙ c.in_ok-changes.ensures) in
    record {
      above = c.in_ok-extend_from_slice.ensures.items
          ∙ (λ i. c.steps.invariant.above i ++ (c.as_slice-in-steps-2.ensures.value ∙ c.in_ok-changes.ensures) i)
          ∙ changed_more packages steps at c.step-item.result c.steps-test.true c.step-item.is;
      below = goes_below packages steps at c.again_in-again.result c.steps-test.true
          (is ∙ sym c.again_in-again.ensures) (sym c.if-is_some.false ∙ c.is_some.ensures) c.steps.invariant.below;
    }
