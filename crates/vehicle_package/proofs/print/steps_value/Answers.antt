use Rattle.std.proofs.Common.{◌∙◌, map, ap, arith, sym}
use Rattle.std.proofs.lemmas.List.{take_all, map-append}
use Rattle.serde_json.specs.Data.{array}
use Rattle.serde_json.specs.View.{items_of}
use Rattle.serde_json.proofs.Views.{view-Array}
use Rattle.vehicle_package.specs.Written.{step_tree}
use Rattle.vehicle_package.proofs.print.steps_value.Goals as goal

pub returns : goal.returns
returns c =
    let all = take_all c.steps.step-index c.args.steps.now (omega (arith, c.steps-test.false)) in
    view-Array c.steps.list ∙ ap (λ ds. array (items_of ds)) (c.steps.invariant ∙ ap (map step_tree) all)
