use Rattle.std.proofs.Common.{◌≡◌, ◌+◌, drop, length, nat_le}
use Rattle.std.specs.Prelude.{sum_by}
use Rattle.package_reader.specs.Printing.{package_text}
use Rattle.recipe.proofs.made.fit.Given as goal

abbrev pub invariant-loop-package : goal.invariant-loop-package
invariant-loop-package l =
    nat_le (sum_by (λ p. 4 + length (package_text p.parts)) (drop l.package-index l.packages)) l.room
    ≡ nat_le (sum_by (λ p. 4 + length (package_text p.parts)) l.packages) l.initial.room
