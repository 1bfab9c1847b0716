use Rattle.std.proofs.Common.{◌∙◌, map, subst, ap, arith}
use Rattle.std.proofs.lemmas.List.{take_all}
use Rattle.std.proofs.lemmas.List.Elements.{All-more}
use Rattle.serde_json.specs.Data.{array}
use Rattle.serde_json.specs.View.{items_of}
use Rattle.serde_json.proofs.Views.{view-Array}
use Rattle.manifest.specs.Valid.{IsNeed}
use Rattle.manifest.specs.Written.{need_tree}
use Rattle.manifest.proofs.Lists.{mapped-more}
use Rattle.manifest.proofs.print.needs_value.Goals as goal

pub needs-preserved : goal.needs-preserved
needs-preserved c =
    let needs = c.args.needs.now in
    let need = c.need-item.result in
    let i = c.needs.need-index in
    let same =
    mapped-more need_tree needs i need c.needs.list.items c.in_ok-value.value c.needs-test.true c.need-item.is
    c.needs.invariant.trees c.in_ok-value.ensures.tree in
    record {
      trees = rw c.in_ok-push.ensures.items same;
      form = All-more IsNeed needs i need c.needs-test.true c.needs.invariant.form
          (subst IsNeed c.need-item.is c.in_ok-value.ensures.form);
    }

pub returns-clause-tree : goal.returns-clause-tree
returns-clause-tree c =
    let all = take_all c.needs.need-index c.args.needs.now (omega (arith, c.needs-test.false)) in
    view-Array c.needs.list ∙ ap (λ ds. array (items_of ds)) (c.needs.invariant.trees ∙ ap (map need_tree) all)
