use Rattle.std.proofs.Common.{◌∙◌, ◌≢◌, ◌<◌, false, arith, length, get_or-set_other, get_or-set_same, below_more}
use Rattle.std.specs.Prelude.{None}
use Rattle.std.proofs.Math.ListN.{length-set}
use Rattle.campaign_core.specs.Campaign.{has_ended}
use Rattle.campaign_core.proofs.Flagged.{mapped}
use Rattle.campaign_core.proofs.views.flags_of.Goals as goal

pub loop-node-preserved : goal.loop-node-preserved
loop-node-preserved c =
    let node = c.loop-node.node in
    let inside : node < length c.loop-node.flags = omega arith in (
      length-set c.loop-node.flags node c.is_some.result ∙ c.loop-node.invariant.0,
      below_more _ _
          (λ k below. let apart : k ≢ node = omega arith in rw get_or-set_other (c.loop-node.invariant.1 k below))
          (rw get_or-set_same c.is_some.ensures),
    )

pub returns : goal.returns
returns c =
    mapped has_ended c.args.ended.now c.loop-node.flags None false (omega arith)
    (λ k lt. c.loop-node.invariant.1 k (omega (arith, lt)))
