use Rattle.node_core.proofs.Names.{Change, Extent, added, cluster_of, count_of, []}
use Rattle.node_core.proofs.Named.{change-more, counted-on, one-at-most}
use Rattle.node_core.proofs.session_rules.count_changed.Goals as goal

pub loop-rest-preserved : goal.loop-rest-preserved
loop-rest-preserved c =
    counted-on (λ cs. count_of [] cs c.args.parts.now)
    (λ cs (x : Change Extent). added [] cs c.args.parts.now (cluster_of x.part)) (λ x xs. change-more x xs _)
    (λ cs x. one-at-most [] cs _ (cluster_of x.part)) c.loop-rest.rest.now c.change-item.result c.loop-rest.count _ _ _
    c.in-len1-up.len_at_least c.change-item.is c.added-count.ensures c.loop-rest.invariant
