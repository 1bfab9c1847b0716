-- The changes of parts, from a place on.
use Rattle.std.proofs.Common.{◌≡◌, ℕ, ◌+◌, ◌<◌, ◌≤◌, min, Bool, true, false, nat_le, List, [], ◌∷◌, length, drop, get_or, refl, ap, ◌∙◌, arith}
use Rattle.std.proofs.lemmas.Bool.{leb-true}
use Rattle.std.proofs.lemmas.Bool.Decides.{nat_tests}
use Rattle.std.proofs.lemmas.List.{drop_all, drop_more}
use Rattle.pm_types.specs.declared.clusters.Extent.{Extent}
use Rattle.ucm_base.specs.declared.parts.Part.{Part}
use Rattle.node_core.specs.Units.{changes_to}

-- one, and those behind it, or none
pub changes-more : (id : ℕ) (parts : List (Part ℕ)) (extents : List Extent) (i : ℕ) (p : Part ℕ) (d : Extent)
    → i < length parts → i < length extents
    → changes_to id (drop i parts) (drop i extents)
    ≡ record { transfer = id; part = record { manifest = (get_or parts i p).manifest; payload = get_or extents i d } }
    ∷ changes_to id (drop (i + 1) parts) (drop (i + 1) extents)
changes-more id parts extents i p d some more =
    λ j. changes_to id (drop_more parts i p some j) (drop_more extents i d more j)

pub changes-end : (id : ℕ) (parts : List (Part ℕ)) (extents : List Extent) (i : ℕ)
    → min (length parts) (length extents) ≤ i
    → changes_to id (drop i parts) (drop i extents) ≡ []
changes-end id parts extents i le = go (nat_le (length parts) i) refl
  where
    none : (parts : List (Part ℕ)) → changes_to id parts [] ≡ []
    none [] = refl
    none (part ∷ parts) = refl

    go : (b : Bool) → nat_le (length parts) i ≡ b → changes_to id (drop i parts) (drop i extents) ≡ []
    go true h = ap (λ ps. changes_to id ps (drop i extents)) (drop_all i parts (leb-true (length parts) i h))
    go false h = let more : i < length parts = grind (arith, nat_tests, h) in
        ap (changes_to id (drop i parts)) (drop_all i extents (omega (arith, le, more))) ∙ none (drop i parts)
