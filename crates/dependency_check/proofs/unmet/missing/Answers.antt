use Rattle.std.proofs.Common.{◌∙◌, ◌<◌, length, map, not, find, sym, ap, arith}
use Rattle.ucm_base.specs.Needs.{is_met}
use Rattle.dependency_check.specs.Clusters.{needing}
use Rattle.dependency_check.proofs.Mapped.{first-at}
use Rattle.dependency_check.proofs.unmet.missing.Goals as goal

pub returns-in-Some : goal.returns-in-Some
returns-in-Some c =
    let all = c.args.clusters.now in
    let lt : c.loop-cluster.cluster-index < length all = omega arith in
    sym (first-at (map needing all) all c.loop-cluster.cluster-index c.cluster-item.result c.in-Some.need.now lt
    c.cluster-item.is
    (c.in-Some.ensures ∙ ap (find (λ need. not (is_met (map needing all) need))) c.as_slice.ensures.needs))
    ∙ c.loop-cluster.invariant
