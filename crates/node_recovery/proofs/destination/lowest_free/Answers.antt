use Rattle.std.proofs.Common.{ap, arith, sym, unwrap_or, ◌∙◌}
use Rattle.ucm_base.specs.Limits.{cluster_limit}
use Rattle.transfer_blocks.specs.Table.{is_free}
use Rattle.transfer_blocks.proofs.Slots.{scan-end, scan-here, scan-next}
use Rattle.node_recovery.proofs.destination.lowest_free.Goals as goal

pub returns-then-is_free : goal.returns-then-is_free
returns-then-is_free c =
    sym (ap (λ o. unwrap_or o 0) (c.loop-place.invariant
    ∙ scan-here (is_free c.args.taken.now) c.loop-place.place cluster_limit (omega arith) (sym c.is_free.ensures
    ∙ c.if-is_free.true)))

pub loop-place-preserved : goal.loop-place-preserved
loop-place-preserved c =
    c.loop-place.invariant
    ∙ scan-next (is_free c.args.taken.now) c.loop-place.place cluster_limit (omega arith) (sym c.is_free.ensures
    ∙ c.if-is_free.false)

pub returns : goal.returns
returns c =
    sym (ap (λ o. unwrap_or o 0) (c.loop-place.invariant
    ∙ scan-end (is_free c.args.taken.now) c.loop-place.place cluster_limit (omega (arith, c.loop-place-test.false))))
