use Rattle.std.proofs.Common.{◌≡◌, map, take}
use Rattle.vehicle_package.proofs.print.bytes_of.Given as goal

abbrev pub invariant-packages : goal.invariant-packages
invariant-packages l = map (λ p. p.now) l.all.items ≡ map (λ p. p.bytes) (take l.packed-index l.packages)
