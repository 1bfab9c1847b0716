use Rattle.std.proofs.Common.{rules}
use Rattle.std.proofs.lemmas.List.Sorted.{answers_always}
use Rattle.report.specs.Shown.{opens_before}
use Rattle.report.proofs.Rising.{decides}
use Rattle.report.proofs.order.opening_rises.Goals as goal

pub returns : goal.returns
returns c =
    decides opens_before c.args.list.now c.is_sorted_by.result (c.is_sorted_by.ensures.cases opens_before
    (answers_always _ _ _ (λ f a r g h. search rules)))
