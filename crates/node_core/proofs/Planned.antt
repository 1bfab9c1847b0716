-- What holds of planned clusters, and of their places.
use Rattle.node_core.proofs.Names.{AllByRecursion, Bool, Change, Cluster, Extent, List, Part, arith, beq, brought, bytes_eq}
use Rattle.node_core.proofs.Names.{change_place, changed_by, cluster_place, each-append, each-filter, each-first, each-imp, each-map}
use Rattle.node_core.proofs.Names.{each-unmap, list_all, map, names_fit_places, planned, true, with_cluster, [], ℕ, ◌++◌, ◌==◌, ◌∷◌}
use Rattle.node_core.proofs.Names.{◌≡◌}
use Rattle.node_core.proofs.Lists.{all-each, each-all, each-second}

-- what holds of each cluster, and of each that a change brings, holds of each planned one
module _ {C : Type 0} (P : Cluster C → Type 0) where
  with-each : (c : Cluster C) (cs : List (Cluster C)) → P c → AllByRecursion P cs → AllByRecursion P (with_cluster c cs)
  with-each c cs own each = each-append P _ _ (each-filter P _ cs each) (own, each-filter P _ cs each)

  changed-each : (part : Part C) (cs : List (Cluster C)) → P (brought part) → AllByRecursion P cs
      → AllByRecursion P (changed_by part cs)
  changed-each part cs own each = grind (arith, with-each, each-filter)

  pub planned-each : (changes : List (Change C)) (cs : List (Cluster C))
      → AllByRecursion (λ change. P (brought change.part)) changes → AllByRecursion P cs
      → AllByRecursion P (planned changes cs)
  planned-each [] cs own each = each
  planned-each (change ∷ changes) cs own each =
      planned-each changes (changed_by change.part cs) own.1 (changed-each change.part cs own.0 each)

-- each of a list is one of another's
abbrev pub IsAmong : {X : Type 0} → List X → List X → Type 1
IsAmong {X} xs ys = (P : X → Type 0) → AllByRecursion P ys → AllByRecursion P xs

-- names fit places where each name with its place is one of those that do
pub among-fit : (xs ys : List (List ℕ × ℕ)) → IsAmong xs ys → names_fit_places ys ≡ true → names_fit_places xs ≡ true
among-fit xs ys among fit =
    each-all _ xs
    (among _ (each-imp _ _ (λ a h. each-all (fits a) xs (among _ (all-each (fits a) ys h))) ys
    (all-each (λ a. list_all (fits a) ys) ys fit)))
  where
    fits : List ℕ × ℕ → List ℕ × ℕ → Bool
    fits a b = beq (bytes_eq a.0 b.0) (a.1 == b.1)

-- the planned clusters' places are those of the clusters before and of the changes
pub planned-places : (changes : List (Change Extent)) (cs : List (Cluster Extent))
    → IsAmong (map cluster_place (planned changes cs)) (map cluster_place cs ++ map change_place changes)
planned-places changes cs P each =
    each-map P cluster_place (planned changes cs) (planned-each (λ c. P (cluster_place c)) changes cs
    (each-unmap P change_place changes (each-second P (map cluster_place cs) (map change_place changes) each))
    (each-unmap P cluster_place cs (each-first P (map cluster_place cs) (map change_place changes) each)))
