use Rattle.std.proofs.Common.{refl}
use Rattle.checkpoint.specs.Halves.{layout_of, other}
use Rattle.decision_log.proofs.Known.{text_fits}
use Rattle.decision_log.proofs.list.MasterLog.format.Goals as goal

pub format-made-requires-clause-other : goal.format-made-requires-clause-other
unfolding other layout_of
format-made-requires-clause-other g c = c.requires.other

pub format-made-requires-clause-long : goal.format-made-requires-clause-long
format-made-requires-clause-long g c = text_fits (layout_of 0) refl

pub returns-in-Err-clause-other : goal.returns-in-Err-clause-other
unfolding other layout_of
returns-in-Err-clause-other g c = c.in-Err.ensures.other
