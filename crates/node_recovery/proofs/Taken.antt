-- The places that clusters and planned changes have.
use Rattle.std.proofs.Common.{◌≡◌, ℕ, List, [], ◌++◌, map, Some, None, sym, ◌∙◌, ap, append_assoc}
use Rattle.std.proofs.lemmas.List.{append-nil, map-append}
use Rattle.std.proofs.lemmas.Simd.{map-map}
use Rattle.pm_types.specs.declared.clusters.Change.{Change}
use Rattle.pm_types.specs.declared.clusters.Cluster.{Cluster}
use Rattle.pm_types.specs.declared.clusters.Extent.{Extent}
use Rattle.pm_types.specs.NodeState.{SessionOf}
use Rattle.pm_types.specs.Stored.{State, change_place, cluster_place, places_in}
use Rattle.node_core.specs.Places.{taken_in}

abbrev Pair : Type 0
Pair = List ℕ × ℕ

place : Pair → ℕ
place p = p.1

pub taken_none : (s : State) → s.session ≡ None → taken_in s ≡ map (λ (c : Cluster Extent). c.content.place) s.running
unfolding place
taken_none s e =
    ap (λ o. map place (places_in (record s { session = o }))) e
    ∙ map-append place (map cluster_place s.running) [] ∙ append-nil _
    ∙ map-map place cluster_place s.running

pub taken_some : (s : State) (x : SessionOf Extent) → s.session ≡ Some x → taken_in s
    ≡ (map (λ (c : Cluster Extent). c.content.place) s.running ++ map (λ (c : Cluster Extent). c.content.place) x.saved)
    ++ map (λ (c : Change Extent). c.part.payload.place) x.changes
unfolding place
taken_some s x e =
    ap (λ o. map place (places_in (record s { session = o }))) e
    ∙ map-append place (map cluster_place s.running) (map cluster_place x.saved ++ map change_place x.changes)
    ∙ ap (λ ns. map place (map cluster_place s.running) ++ ns)
    (map-append place (map cluster_place x.saved) (map change_place x.changes))
    ∙ (λ i. map-map place cluster_place s.running i
    ++ (map-map place cluster_place x.saved i ++ map-map place change_place x.changes i))
    ∙ sym (append_assoc (map (λ (c : Cluster Extent). c.content.place) s.running)
    (map (λ (c : Cluster Extent). c.content.place) x.saved)
    (map (λ (c : Change Extent). c.part.payload.place) x.changes))
