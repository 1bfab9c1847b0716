use Rattle.node_core.proofs.Names.{Part, added, cluster_of, count_of, [], ℕ}
use Rattle.node_core.proofs.Named.{counted-on, one-at-most, part-more}
use Rattle.node_core.proofs.session_rules.count_brought.Goals as goal

pub loop-rest-preserved : goal.loop-rest-preserved
loop-rest-preserved c =
    counted-on (count_of [] []) (λ ps (x : Part ℕ). added [] [] ps (cluster_of x))
    part-more (λ ps x. one-at-most [] [] ps (cluster_of x)) c.loop-rest.rest.now c.part-item.result
    c.loop-rest.count _ _ _ c.in-len1-up.len_at_least c.part-item.is c.added-count.ensures c.loop-rest.invariant
