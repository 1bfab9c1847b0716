-- A plan of clusters that lie elsewhere, and the clusters that it stands for.
use Rattle.node_core.proofs.Names.{Cluster, Extent, List, ap, append_assoc, filter, map, map-append, name_lt, planned_of, with_cluster}
use Rattle.node_core.proofs.Names.{[], ◌++◌, ◌∙◌, ◌∷◌, ◌≡◌}
use Rattle.node_core.specs.declared.plan.Planned.{Planned as Lent}
use Rattle.node_core.proofs.Lists.{filter-map}

-- a cluster between those before its name and those behind it
pub put-between : (plan before behind pushed all : List Lent) (x : Lent)
    → before ≡ filter (λ d. name_lt d.name.now x.name.now) plan
    → behind ≡ filter (λ d. name_lt x.name.now d.name.now) plan
    → pushed ≡ before ++ x ∷ [] → all ≡ pushed ++ behind
    → map planned_of all ≡ with_cluster (planned_of x) (map planned_of plan)
put-between plan before behind pushed all x fore aft push append =
    ap (map planned_of) (append ∙ (λ i. push i ++ behind))
    ∙ map-append planned_of (before ++ x ∷ []) behind
    ∙ ap (λ l. l ++ map planned_of behind) (map-append planned_of before (x ∷ []))
    ∙ append_assoc (map planned_of before) (planned_of x ∷ []) (map planned_of behind)
    ∙ (λ i. earlier i ++ planned_of x ∷ later i)
  where
    earlier : map planned_of before ≡ filter (λ (d : Cluster Extent). name_lt d.name x.name.now) (map planned_of plan)
    earlier = ap (map planned_of) fore ∙ filter-map planned_of (λ (d : Cluster Extent). name_lt d.name x.name.now) plan

    later : map planned_of behind ≡ filter (λ (d : Cluster Extent). name_lt x.name.now d.name) (map planned_of plan)
    later = ap (map planned_of) aft ∙ filter-map planned_of (λ (d : Cluster Extent). name_lt x.name.now d.name) plan
