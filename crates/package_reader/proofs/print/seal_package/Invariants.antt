use Rattle.std.proofs.Common.{◌≡◌, ◌++◌, length, map, take}
use Rattle.std.specs.List.{AllByRecursion, flat_map}
use Rattle.package_reader.specs.Printing.{canonical}
use Rattle.package_reader.specs.Spelling.{HasText, fields, front}
use Rattle.package_reader.proofs.print.seal_package.Given as goal

abbrev pub invariant-parts : goal.invariant-parts
invariant-parts l = record {
  bytes : l.bytes.items ≡ front (length l.parts) ++ flat_map fields (map canonical (take l.part-index l.parts));
  texts : AllByRecursion HasText (take l.part-index l.parts);
}
