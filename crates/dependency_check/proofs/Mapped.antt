-- Clusters that are read as what the definition speaks of.
use Rattle.std.proofs.Common.{◌≡◌, ◌∙◌, ℕ, ◌+◌, ◌<◌, Bool, ◌||◌, not, List, [], ◌∷◌, map, drop, length, get_or, find, option_map, Option, Some, refl, sym, ap}
use Rattle.std.specs.List.{list_any}
use Rattle.std.specs.Option.{option_or}
use Rattle.std.proofs.lemmas.List.{at_drop_more}
use Rattle.ucm_base.specs.declared.parts.Need.{Need}
use Rattle.ucm_base.specs.Needs.{Needing, is_met, first_unmet}
use Rattle.dependency_check.specs.declared.unmet.Needing.{Needing as Lent}
use Rattle.dependency_check.specs.Clusters.{needing}

pub list_any-map : {X Y : Type 0} (test : Y → Bool) (f : X → Y) (xs : List X)
    → list_any test (map f xs) ≡ list_any (λ x. test (f x)) xs
list_any-map test f [] = refl
list_any-map test f (x ∷ xs) = ap (λ b. test (f x) || b) (list_any-map test f xs)

-- a cluster with an unmet need has the first of those from its place on
pub first-at : (all : List Needing) (xs : List Lent) (i : ℕ) (x : Lent) (need : Need) → i < length xs
    → x ≡ get_or xs i x → Some need ≡ find (λ n. not (is_met all n)) x.needs.now
    → first_unmet all (map needing (drop i xs)) ≡ Some (record { cluster = x.name.now; need = need })
first-at all xs i x need lt is found =
    at_drop_more (λ ys. first_unmet all (map needing ys)) xs i x lt
    ∙ ap (λ y. first_unmet all (map needing (y ∷ drop (i + 1) xs))) (sym is)
    ∙ ap (λ (o : Option Need). option_or (option_map (λ n. record { cluster = x.name.now; need = n }) o)
    (first_unmet all (map needing (drop (i + 1) xs)))) (sym found)
