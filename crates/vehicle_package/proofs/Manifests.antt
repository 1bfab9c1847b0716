-- What parts change goes by their manifests alone.
use Rattle.std.proofs.Common.{◌≡◌, ℕ, List, map, sym, ◌∙◌, ap}
use Rattle.std.proofs.lemmas.Simd.{map-map}
use Rattle.ucm_base.specs.declared.parts.Manifest.{Manifest}
use Rattle.ucm_base.specs.declared.parts.Part.{Part}
use Rattle.vehicle_package.specs.Changes.{change_on}
use Rattle.vehicle_package.specs.declared.changes.Change.{Change}

abbrev changed : ℕ → Manifest → Change
changed node m = record { node = node; cluster = m.name }

pub changes-by : {C D : Type 0} (node : ℕ) (xs : List (Part C)) (ys : List (Part D))
    → map (λ p. p.manifest) xs ≡ map (λ p. p.manifest) ys
    → map (change_on node) xs ≡ map (change_on node) ys
changes-by node xs ys same =
    sym (map-map (changed node) (λ p. p.manifest) xs) ∙ ap (map (changed node)) same
    ∙ map-map (changed node) (λ p. p.manifest) ys
