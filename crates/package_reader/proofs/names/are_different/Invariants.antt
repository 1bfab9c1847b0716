use Rattle.std.proofs.Common.{◌≡◌, drop}
use Rattle.ucm_base.specs.Names.{all_differ}
use Rattle.package_reader.proofs.names.are_different.Given as goal

abbrev pub invariant-loop-i : goal.invariant-loop-i
invariant-loop-i l = all_differ l.names ≡ all_differ (drop l.i l.names)
