use Rattle.std.proofs.Common.{◌≡◌, ◌++◌, take, string_bytes}
use Rattle.std.specs.List.{flat_map}
use Rattle.pm_types.specs.Printed.{package_text}
use Rattle.report.specs.Answers.{spaced}
use Rattle.report.proofs.answers.add_packages.Given as goal

abbrev pub invariant-loop-package : goal.invariant-loop-package
invariant-loop-package l = string_bytes l.text ≡ string_bytes l.initial.text ++ flat_map (λ p. spaced (package_text p))
    (take l.package-index l.packages)
