use Rattle.std.proofs.Common.{◌≡◌, Some, take}
use Rattle.manifest.specs.Trees.{all_of}
use Rattle.package_reader.specs.Reading.{part_in}
use Rattle.package_reader.proofs.read.parts_in.Given as goal

abbrev pub invariant-places : goal.invariant-places
invariant-places l = all_of (part_in l.bytes) (take l.place-index l.places) ≡ Some l.parts.items
