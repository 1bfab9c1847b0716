use Rattle.std.proofs.Common.{◌≡◌, take, map}
use Rattle.ucm_base.specs.Parts.{cluster_of}
use Rattle.package_reader.proofs.names.names_of.Given as goal

abbrev pub invariant-loop-part : goal.invariant-loop-part
invariant-loop-part g l = l.names.items ≡ map cluster_of (take l.part-index l.parts)
