use Rattle.std.proofs.Common.{ℕ, ap, arith, length}
use Rattle.std.proofs.lemmas.List.{length-drop, length-take}
use Rattle.vehicle_package.proofs.read.packages_in.Goals as goal

pub package_in-requires : goal.package_in-requires
package_in-requires c = omega (
  arith,
  ap length c.of.ensures,
  length-take {A = ℕ},
  length-drop {A = ℕ},
  c.requires.whole,
)
