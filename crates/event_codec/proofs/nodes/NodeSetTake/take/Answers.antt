use Rattle.std.proofs.lemmas.Result.{err_from_is_err_and}
use Rattle.event_codec.proofs.Bits.{no_set}
use Rattle.event_codec.proofs.nodes.NodeSetTake.take.Goals as goal

pub returns-in_err-bits-clause-outside : goal.returns-in_err-bits-clause-outside
returns-in_err-bits-clause-outside c =
    let p = err_from_is_err_and c.from_residual.result c.from_residual.ensures.1 in
    rw (p.1, p.2) (λ is. no_set c.args.bytes.now (c.in_err-bits.ensures.outside is))
