use Rattle.std.proofs.Common.{◌≡◌, ◌-◌, ◌≤◌, length}
use Rattle.package_reader.specs.Fields.{parts_at, texts_limit}
use Rattle.package_reader.proofs.Walk.{with_front}
use Rattle.package_reader.proofs.fields.parts_at.Given as goal

abbrev pub invariant-loop : goal.invariant-loop
invariant-loop l = record {
  so_far : with_front l.places.items (parts_at (l.fn.head.count - l.counter) l.bytes l.room l.place)
      ≡ parts_at l.fn.head.count l.bytes (texts_limit l.fn.head.count) l.fn.head.place;
  within : l.place ≤ length l.bytes;
  many : length l.places.items ≡ l.counter;
}
