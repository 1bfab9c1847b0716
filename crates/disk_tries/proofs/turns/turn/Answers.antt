use Rattle.std.proofs.Common.{List, length, ℕ, arith, sym, ap, subst}
use Rattle.checkpoint.specs.Halves.{HasHalf}
use Rattle.checkpoint.proofs.Places.{pair_has, other_below, other_has}
use Rattle.disk_tries.proofs.turns.turn.Goals as goal

pub read_half-requires-clause-half : goal.read_half-requires-clause-half
read_half-requires-clause-half c = other_below c.args.half _ c.requires.half c.other.ensures

pub read_half-requires-clause-inside : goal.read_half-requires-clause-inside
read_half-requires-clause-inside c = other_has c.args.half _ _ c.requires.half c.other.ensures c.requires.pair

pub prepare-requires-clause-inside : goal.prepare-requires-clause-inside
prepare-requires-clause-inside c =
    subst (λ (b : List ℕ). HasHalf c.args.half b) (sym c.read_half.ensures.reads)
    (pair_has c.args.half _ c.requires.pair)

pub open_half-requires-clause-inside : goal.open_half-requires-clause-inside
open_half-requires-clause-inside c =
    pair_has c.args.half _ (omega (
      arith,
      c.requires.pair,
      c.prepare.ensures.served.same_size,
      ap (λ (b : List ℕ). length b) c.read_half.ensures.reads,
    ))
