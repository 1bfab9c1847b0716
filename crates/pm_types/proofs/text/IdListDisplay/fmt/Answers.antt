use Rattle.std.proofs.Common.{sym, rules}
use Rattle.std.proofs.Output.{has_written_append, has_written_of_eq}
use Rattle.pm_types.proofs.IdTexts.{one-more}
use Rattle.pm_types.proofs.text.IdListDisplay.fmt.Goals as goal

pub loop-id-preserved : goal.loop-id-preserved
loop-id-preserved g c = λ p.
    has_written_of_eq _ _ _ _ _ (sym (one-more c.in-Some.more.now c.loop-id.id-index c.loop-id-test.true))
    (has_written_append _ _ _ _ _ _ (c.loop-id.invariant p) (search rules))
