-- Stored clusters that run, were saved or are planned stand in order of name, as what they stand for does.
use Rattle.node_core.proofs.Names.{Areas, Bytes, Change, Cluster, Extent, IfSome, List, Option, SessionOf, Some, State, ap}
use Rattle.node_core.proofs.Names.{change_meaning, cluster_meaning, map, map-map, names_of, names_rise, option_map, planned, planned-rise}
use Rattle.node_core.proofs.Names.{session_meaning, subst, sym, true, ◌∙◌, ◌≡◌, ◌<◌}
use Rattle.ucm_base.specs.Limits.{client_limit}
use Rattle.ucm_base.specs.Needs.{Needing}
use Rattle.dependency_check.specs.Clusters.{needing}
use Rattle.dependency_check.specs.declared.unmet.Needing.{Needing as Lent}
use Rattle.node_core.specs.Core.{SomeSound}
use Rattle.node_core.specs.Sessions.{needing_of}
use Rattle.node_core.proofs.Natural.{planned-means}

abbrev pub Rise : List (Cluster Extent) → Type 0
Rise cs = names_rise (map (λ (c : Cluster Extent). c.name) cs) ≡ true

module _ (areas : Areas) (cs : List (Cluster Extent)) where
  same : names_rise (names_of (map (cluster_meaning areas) cs)) ≡ names_rise (map (λ (c : Cluster Extent). c.name) cs)
  same = ap names_rise (map-map (λ (c : Cluster Bytes). c.name) (cluster_meaning areas) cs)

  pub planned-rises : (changes : List (Change Extent)) → Rise cs → Rise (planned changes cs)
  planned-rises changes r =
      ap names_rise (sym (map-map (λ (c : Cluster Bytes). c.name) (cluster_meaning areas) (planned changes cs)))
      ∙ ap (λ l. names_rise (names_of l)) (sym (planned-means areas changes cs))
      ∙ planned-rise (map (change_meaning areas) changes) (map (cluster_meaning areas) cs) (same ∙ r)

pub running-rises : (s : State) → SomeSound s → Rise s.running
running-rises s sound = sym (same sound.0 s.running) ∙ sound.1.fit.consistent.limits.running

pub saved-rises : (s : State) (x : SessionOf Extent) → SomeSound s → s.session ≡ Some x → Rise x.saved
saved-rises s x sound e =
    let all = subst (λ (o : Option (SessionOf Extent)). IfSome (option_map (session_meaning sound.0) o)
    (λ y. (names_rise (map (λ (c : Cluster Bytes). c.name) y.saved) ≡ true) × (y.owner < client_limit))) e
    sound.1.fit.consistent.limits.saved in
    sym (same sound.0 x.saved) ∙ all.0

-- and so do clusters that are asked for their needs
pub needing-rises : (all : List Lent) (cs : List (Cluster Extent)) → map needing all ≡ map needing_of cs → Rise cs
    → names_rise (map (λ (c : Lent). c.name.now) all) ≡ true
needing-rises all cs e r =
    ap names_rise (sym (map-map (λ (n : Needing). n.name) needing all) ∙ ap (map (λ (n : Needing). n.name)) e
    ∙ map-map (λ (n : Needing). n.name) needing_of cs) ∙ r
