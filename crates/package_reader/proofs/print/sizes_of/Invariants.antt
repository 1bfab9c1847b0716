use Rattle.std.proofs.Common.{◌≡◌, ◌*◌, ◌≤◌, ◌^◌, take}
use Rattle.package_reader.specs.Printing.{payloads_size, texts_size}
use Rattle.package_reader.proofs.print.sizes_of.Given as goal

abbrev pub invariant-parts : goal.invariant-parts
invariant-parts l = record {
  texts : l.sizes.texts ≡ texts_size (take l.part-index l.parts);
  payloads : l.sizes.payloads ≡ payloads_size (take l.part-index l.parts);
  few : l.sizes.texts ≤ 4096 * l.part-index;
  small : l.sizes.payloads ≤ 2 ^ 32 * l.part-index;
}
