use Rattle.node_core.proofs.Names.{ap, arith, filter, length, length-filter, name_lt, ◌∙◌}
use Rattle.node_core.proofs.Ordered.{next-lent}
use Rattle.node_core.proofs.format.in_order.Goals as goal

pub insert-requires : goal.insert-requires
insert-requires c =
    let few = length-filter (λ d. name_lt d.now.name c.cluster-item.result.name) c.as_slice.result.now in
    let is = c.count_before-before.ensures in
    let len = c.as_slice.ensures.len in
    omega (arith, few, is, len)

pub loop-cluster-preserved : goal.loop-cluster-preserved
loop-cluster-preserved c =
    next-lent (λ d. d.now) c.loop-cluster.sorted.items c.insert.new.self.items c.args.installed.now
    c.loop-cluster.cluster-index c.count_before-before.result _ c.loop-cluster-test.true c.cluster-item.is
    (c.count_before-before.ensures ∙ ap (λ l. length (filter (λ d. name_lt d.now.name c.cluster-item.result.name) l))
    c.as_slice.ensures.value) c.in_ok-insert.ensures.items c.requires.differ c.loop-cluster.invariant.0
    c.loop-cluster.invariant.1
