use Rattle.std.proofs.lemmas.Result.{err_from_is_err_and}
use Rattle.event_codec.proofs.Lists.{outside_behind}
use Rattle.event_codec.proofs.fields.take_many.Goals as goal

pub returns-in_err-value-clause-outside : goal.returns-in_err-value-clause-outside
returns-in_err-value-clause-outside g c =
    let p = err_from_is_err_and c.from_residual.result c.from_residual.ensures.1 in
    let so_far = c.values.invariant in
    rw (p.1, p.2) (λ is. outside_behind g.T.Take.spelled g.T.Take.fits g.met.T.Take.unique c.args.count
    c.values.values.items c.args.bytes.now c.values.rest.now so_far.0.1 (rw so_far.0.0 c.values-test.true) so_far.1
    (c.in_err-value.ensures.outside is))
