use Rattle.std.proofs.Common.{◌≡◌, map, take}
use Rattle.recipe.proofs.packing.vehicle_bytes.Given as goal

abbrev pub invariant-packages : goal.invariant-packages
invariant-packages l = map (λ p. p.now) l.texts.items ≡ map (λ a. a.bytes) (take l.package-index l.packages)
