use Rattle.std.proofs.Common.{◌∙◌}
use Rattle.master_tries.proofs.TwoHalves.{zeros_have, zeros_shut}
use Rattle.master_tries.proofs.fresh.formatted.Goals as goal

pub format-requires-clause-size : goal.format-requires-clause-size
format-requires-clause-size c = zeros_have c.args.size _ c.requires c.in_ok-disk.ensures.zeros

pub format-requires-clause-other : goal.format-requires-clause-other
format-requires-clause-other c x now =
    zeros_shut 1 c.args.size x (c.in_ok-disk.ensures.nothing_pending x now ∙ c.in_ok-disk.ensures.zeros)
