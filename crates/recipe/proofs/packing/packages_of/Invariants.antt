use Rattle.std.proofs.Common.{◌≡◌, map, take}
use Rattle.recipe.specs.Packing.{printed}
use Rattle.recipe.proofs.packing.packages_of.Given as goal

abbrev pub invariant-loop-named : goal.invariant-loop-named
invariant-loop-named l = l.all.items ≡ map printed (take l.named-index l.packages)
