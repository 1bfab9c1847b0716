use Rattle.pm_types.specs.Clusters.{changed_as}
use Rattle.node_core.proofs.Names.{Cluster, Extent, ap, brought, bytes_eq, map, not, planned_of, sym, ◌∙◌}
use Rattle.node_core.proofs.Lists.{filter-map}
use Rattle.node_core.proofs.plan.change_plan.Goals as goal

pub returns-in_ok-left-in-Remove : goal.returns-in_ok-left-in-Remove
returns-in_ok-left-in-Remove c =
    let part = c.args.part.now in
    ap (map planned_of) c.in_ok-left-in-Remove.ensures
    ∙ filter-map planned_of (λ (d : Cluster Extent). not (bytes_eq d.name part.manifest.name)) c.args.plan.now
    ∙ ap (λ action. changed_as action (brought part) (map planned_of c.args.plan.now)) (sym c.in-Remove.is)
