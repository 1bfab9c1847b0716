use Rattle.std.proofs.Common.{rules}
use Rattle.turn_gate.proofs.Polls.{looks}
use Rattle.turn_gate.proofs.Prefixes.{is_some}
use Rattle.turn_gate.proofs.gate.Gate.poll.Goals as goal

pub load-word-requires : goal.load-word-requires
load-word-requires g c =
    let f = is_some _ c.seat.invariant.made in
    (search rules, search rules, looks _ _ _ c.seat.inside.inner.me f.0 f.1 g.met.M.Machine.code_fits)
