use Rattle.std.proofs.Common.{◌≡◌, ◌++◌, length, map, take}
use Rattle.std.specs.List.{flat_map}
use Rattle.wire.specs.Fields.{bytes_field, u16_field}
use Rattle.vehicle_package.specs.Fields.{mark}
use Rattle.vehicle_package.specs.Plan.{plan_text}
use Rattle.vehicle_package.proofs.print.seal_vehicle.Given as goal

abbrev pub invariant-packages : goal.invariant-packages
invariant-packages l = l.bytes.items ≡ mark ++ bytes_field (plan_text l.steps) ++ u16_field (length l.packages)
    ++ flat_map bytes_field (map (λ p. p.now) (take l.package-index l.packages))
