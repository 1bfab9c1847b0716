-- What is attached, and the vehicle, as they are printed.
use Rattle.std.proofs.Common.{◌≡◌, List, ℕ, [], ◌∷◌, false, map, refl, sym, ◌∙◌, ap}
use Rattle.std.specs.Prelude.{codes}
use Rattle.std.specs.List.{insert}
use Rattle.std.proofs.lemmas.Simd.{map-map}
use Rattle.vehicle_package.specs.Spelling.{vehicle_text}
use Rattle.vehicle_package.specs.declared.vehicle.Step.{Step}
use Rattle.recipe.specs.Made.{MadeOf, is_none, texts_of, vehicle_of}
use Rattle.recipe.specs.Packing.{NamedBytes, attached, printed}
use Rattle.recipe.specs.declared.parts.NamedPackage.{NamedPackage}

-- the vehicle of the packages that were printed
pub vehicle-printed : (made : MadeOf) (steps : List Step) (packages : List NamedPackage) (all : List NamedBytes)
    → steps ≡ made.steps
    → packages ≡ made.packages → all ≡ map printed packages
    → vehicle_text steps (map (λ a. a.bytes) all) ≡ vehicle_of made
vehicle-printed made steps packages all s p e =
    let texts : map (λ (a : NamedBytes). a.bytes) all ≡ texts_of made.packages =
    ap (map (λ (a : NamedBytes). a.bytes)) e ∙ map-map (λ (a : NamedBytes). a.bytes) printed packages ∙ ap texts_of p in
    (λ i. vehicle_text (s i) (texts i))

pub all-attached : (made : MadeOf) (all : List NamedBytes) (bytes : List ℕ) (packages : List NamedPackage) (above : ℕ)
    → is_none made.steps ≡ false → packages ≡ made.packages → all ≡ map printed packages → bytes ≡ vehicle_of made
    → above ≡ made.above
    → insert all above (record { name = codes "vehicle"; bytes = bytes }) ≡ attached made
all-attached made all bytes packages above some p e v a =
    rw some (λ i. insert ((e ∙ ap (map printed) p) i) (a i) (record { name = codes "vehicle"; bytes = v i }))
