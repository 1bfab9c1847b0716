use Rattle.std.proofs.Common.{inr, refl, sym}
use Rattle.serde_json.specs.View.{view}
use Rattle.manifest.proofs.Lists.{all_of-more, all_of-stop}
use Rattle.vehicle_package.specs.Plan.{step_of_tree}
use Rattle.vehicle_package.proofs.plan.all_steps.Goals as goal

pub returns-in_default-clause-err : goal.returns-in_default-clause-err
returns-in_default-clause-err c =
    inr (
      refl,
      all_of-stop (step_of_tree c.args.count) view c.args.values.now c.steps.i c.index-values-i.result
          c.steps-test.true c.index-values-i.is (sym c.in_default.ensures),
    )

pub steps-preserved : goal.steps-preserved
steps-preserved c =
    rw c.in_ok-push.ensures.items
    (all_of-more (step_of_tree c.args.count) view c.args.values.now c.steps.i c.index-values-i.result
    c.steps.steps.items c.in-Some.step c.steps-test.true c.index-values-i.is c.steps.invariant
    (sym c.in-Some.ensures))
