use Rattle.std.proofs.Common.{arith}
use Rattle.event_codec.proofs.nodes.flags.Goals as goal

pub returns : goal.returns
returns c =
    omega (
      arith,
      c.ranges.bits.fits,
      c.is_odd.ensures,
      c.is_odd-2.ensures,
      c.is_odd-3.ensures,
      c.is_odd-4.ensures,
      c.is_odd-5.ensures,
      c.is_odd-6.ensures,
      c.is_odd-7.ensures,
      c.is_odd-8.ensures,
    )
