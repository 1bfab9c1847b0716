use Rattle.std.proofs.Common.{◌≡◌, ◌≤◌, ◌∙◌, ap, subst, sym, Some}
use Rattle.std.proofs.lemmas.Result.{IfOk-weaker}
use Rattle.serde_json.specs.Data.{depth}
use Rattle.serde_json.specs.View.{view}
use Rattle.serde_json.specs.Written.{has_float, compact_text}
use Rattle.manifest.proofs.Reading.{both}
use Rattle.vehicle_package.specs.Plan.{plan_of}
use Rattle.vehicle_package.proofs.Plans.{plan_of-read}
use Rattle.vehicle_package.proofs.Trees.{plan_back, plan_written, no_float, low}
use Rattle.vehicle_package.proofs.print.print_plan.Goals as goal

pub returns-clause-text : goal.returns-clause-text
returns-clause-text c =
    let steps = c.args.steps.now in
    let is = c.in_ok-value.ensures in
    IfOk-weaker c.to_vec.result _ _ (λ b h. h (ap has_float is ∙ no_float steps) ∙ ap compact_text is
    ∙ plan_written steps) c.to_vec.ensures.text

pub returns-clause-back : goal.returns-clause-back
returns-clause-back c =
    let steps = c.args.steps.now in
    let is = c.in_ok-value.ensures in
    let shallow : depth (view c.in_ok-value.value) ≤ 127 = rw is (low steps) in
    IfOk-weaker c.to_vec.result _ _ (λ b h count many each.
    ap (plan_of count) (sym h.1) ∙ plan_of-read count b.items _ h.0.0 (h.0.1 shallow ∙ ap Some is)
    ∙ plan_back count steps many each)
    (both c.to_vec.result _ _ (both c.to_vec.result _ _ c.to_vec.ensures.utf8 c.to_vec.ensures.reads_back)
    (returns-clause-text c))
