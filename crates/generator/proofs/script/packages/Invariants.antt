use Rattle.std.proofs.Common.{◌≡◌, map}
use Rattle.std.specs.List.{AllByRecursion, range_with_len}
use Rattle.vehicle_package.specs.Spelling.{IsCarried}
use Rattle.generator.specs.Demo.{package_of}
use Rattle.generator.proofs.script.packages.Given as goal

abbrev pub invariant-loop-place : goal.invariant-loop-place
invariant-loop-place l =
    record {
      made : l.packages ≡ map (package_of l.number) (range_with_len 0 l.place);
      carried : AllByRecursion IsCarried l.packages;
    }
