use Rattle.std.proofs.Common.{List, ℕ, length, arith, ap}
use Rattle.checkpoint.proofs.Places.{pair_has, other_below, other_has}
use Rattle.disk_tries.proofs.turns.turn_under.Goals as goal

pub read_half-requires-clause-inside : goal.read_half-requires-clause-inside
read_half-requires-clause-inside c =
    pair_has c.args.half _ (omega (
      arith,
      c.requires.pair,
      ap (λ (b : List ℕ). length b) c.arm.ensures.reads,
      c.turn-ended.ensures.size,
      c.in_default.ensures.size,
    ))

pub read_half-requires-2-clause-half : goal.read_half-requires-2-clause-half
read_half-requires-2-clause-half c = other_below c.args.half _ c.requires.half c.other.ensures

pub read_half-requires-2-clause-inside : goal.read_half-requires-2-clause-inside
read_half-requires-2-clause-inside c = other_has c.args.half _ _ c.requires.half c.other.ensures
    (omega (
      arith,
      c.requires.pair,
      ap (λ (b : List ℕ). length b) c.arm.ensures.reads,
      c.turn-ended.ensures.size,
      c.in_default.ensures.size,
      ap (λ (b : List ℕ). length b) c.read_half.ensures.reads,
    ))
