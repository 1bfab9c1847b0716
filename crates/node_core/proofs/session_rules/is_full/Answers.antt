use Rattle.node_core.proofs.Names.{Cluster, Extent, added, count_of}
use Rattle.node_core.proofs.Named.{cluster-more, counted-on, one-at-most}
use Rattle.node_core.proofs.session_rules.is_full.Goals as goal

pub loop-rest-preserved : goal.loop-rest-preserved
loop-rest-preserved c =
    counted-on (λ cs. count_of cs c.args.changes.now c.args.parts.now)
    (λ cs (x : Cluster Extent). added cs c.args.changes.now c.args.parts.now x.name) (λ x xs. cluster-more x xs _ _)
    (λ cs x. one-at-most cs _ _ x.name) c.loop-rest.rest.now c.cluster-item.result c.loop-rest.count _ _ _
    c.in-len1-up.len_at_least c.cluster-item.is c.added-count.ensures c.loop-rest.invariant
