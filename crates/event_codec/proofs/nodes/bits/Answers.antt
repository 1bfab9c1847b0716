use Rattle.std.proofs.Common.{arith}
use Rattle.event_codec.proofs.Bits.{eight_bits}
use Rattle.event_codec.proofs.nodes.bits.Goals as goal

pub returns : goal.returns
returns c =
    omega (
      arith,
      eight_bits c.args.flags.now c.told-flags,
      c.from.ensures,
      c.from-2.ensures,
      c.from-3.ensures,
      c.from-4.ensures,
      c.from-5.ensures,
      c.from-6.ensures,
      c.from-7.ensures,
      c.from-8.ensures,
    )
