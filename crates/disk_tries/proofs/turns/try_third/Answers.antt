use Rattle.std.proofs.Common.{length, sym, subst, arith}
use Rattle.checkpoint.specs.Halves.{HasPair}
use Rattle.checkpoint.specs.declared.layout.Layout.{Layout}
use Rattle.checkpoint.proofs.Places.{other_below, other_layout}
use Rattle.disk_tries.proofs.FourHalves.{each_takes}
use Rattle.disk_tries.proofs.turns.try_third.Goals as goal

pub turn-requires-2-clause-half : goal.turn-requires-2-clause-half
turn-requires-2-clause-half c = other_below c.args.half _ c.requires.half c.other.ensures

pub turn-requires-2-clause-pair : goal.turn-requires-2-clause-pair
turn-requires-2-clause-pair c =
    subst (λ (l : Layout). HasPair l c.turn.new.disk.medium.pages.bytes)
    (sym (other_layout c.args.half _ c.requires.half c.other.ensures))
    (omega (arith, c.in_ok-disk.ensures.pair, c.turn.ensures.size))

pub turn-requires-2-clause-short : goal.turn-requires-2-clause-short
turn-requires-2-clause-short c = each_takes c.other.result (length c.args.state.now) c.requires.short

pub turn_under-requires-clause-short : goal.turn_under-requires-clause-short
turn_under-requires-clause-short c = each_takes c.args.half (length c.args.state.now) c.requires.short

pub turn-requires-clause-short : goal.turn-requires-clause-short
turn-requires-clause-short c = each_takes c.args.half (length c.args.state.now) c.requires.short
