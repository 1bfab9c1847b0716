use Rattle.std.proofs.Common.{rules}
use Rattle.std.proofs.lemmas.List.Sorted.{answers_always}
use Rattle.report.specs.Shown.{ranks_before}
use Rattle.report.proofs.Rising.{decides}
use Rattle.report.proofs.order.unreached_rises.Goals as goal

pub returns : goal.returns
returns c =
    decides ranks_before c.args.list.now c.is_sorted_by.result (c.is_sorted_by.ensures.cases ranks_before
    (answers_always _ _ _ (λ f a r g h. search rules)))
