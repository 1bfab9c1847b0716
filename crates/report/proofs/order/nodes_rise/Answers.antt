use Rattle.std.proofs.Common.{rules}
use Rattle.std.proofs.lemmas.List.Sorted.{answers_always}
use Rattle.report.specs.Shown.{is_lower}
use Rattle.report.proofs.Rising.{decides}
use Rattle.report.proofs.order.nodes_rise.Goals as goal

pub returns : goal.returns
returns c =
    decides is_lower c.args.list.now c.is_sorted_by.result (c.is_sorted_by.ensures.cases is_lower
    (answers_always _ _ _ (λ f a r g h. search rules)))
