use Rattle.std.proofs.Common.{refl, ◌∙◌}
use Rattle.checkpoint.specs.Halves.{layout_of, other}
use Rattle.disk_tries.proofs.FourHalves.{zeros_have, zeros_shut, text_fits}
use Rattle.disk_tries.proofs.tally_tries.formatted.Goals as goal

pub format-requires-clause-size : goal.format-requires-clause-size
format-requires-clause-size c =
    zeros_have c.args.size (layout_of 0) _ c.requires (c.arm.ensures.reads ∙ c.in_ok-disk.ensures.zeros)

pub format-requires-clause-other : goal.format-requires-clause-other
format-requires-clause-other c x now =
    zeros_shut (other 0) c.args.size x
    (c.in_ok-disk.ensures.nothing_pending x (c.arm.ensures.images.none_new x now) ∙ c.in_ok-disk.ensures.zeros)

pub format-requires-clause-long : goal.format-requires-clause-long
format-requires-clause-long c = text_fits (layout_of 0) refl
