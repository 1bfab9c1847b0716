use Rattle.std.proofs.Common.{◌∷◌, [], length, arith, ap}
use Rattle.std.proofs.lemmas.Result.{err_from_is_err_and}
use Rattle.std.proofs.lemmas.List.{length-append}
use Rattle.serde_json.specs.View.{view}
use Rattle.manifest.specs.Form.{need_of_tree}
use Rattle.manifest.proofs.Lists.{all_of-more, all_of-stop}
use Rattle.manifest.proofs.read.all_needs.Goals as goal

pub returns-in_err-need-clause-invalid : goal.returns-in_err-need-clause-invalid
returns-in_err-need-clause-invalid c =
    let p = err_from_is_err_and c.from_residual.result c.from_residual.ensures.1 in
    rw (p.1, p.2) (λ bad. all_of-stop need_of_tree view c.args.values.now c.needs.i c.index-values-i.result
    c.needs-test.true c.index-values-i.is (c.in_err-need.ensures.1 bad))

pub needs-preserved : goal.needs-preserved
needs-preserved c =
    let taken =
    all_of-more need_of_tree view c.args.values.now c.needs.i c.index-values-i.result c.needs.out.items
    c.in_ok-need.need c.needs-test.true c.index-values-i.is c.needs.invariant.0 c.in_ok-need.ensures.0 in
    let grown = ap length c.in_ok-push.ensures.items in
    let sum = length-append c.needs.out.items (c.in_ok-need.need ∷ []) in
    let before = c.needs.invariant.1 in
    (rw c.in_ok-push.ensures.items taken, omega (arith, grown, sum, before))
