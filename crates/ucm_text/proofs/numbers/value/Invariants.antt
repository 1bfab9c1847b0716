use Rattle.std.proofs.Common.{◌≡◌, ◌<◌, ◌^◌, drop}
use Rattle.ucm_text.specs.Decimal.{value_from, value_of}
use Rattle.ucm_text.proofs.numbers.value.Given as goal

abbrev pub invariant-loop-digit : goal.invariant-loop-digit
invariant-loop-digit l = record {
  value : value_from l.value (drop l.digit-index l.digits) ≡ value_of l.digits;
  fits : l.value < 2 ^ 64;
}
