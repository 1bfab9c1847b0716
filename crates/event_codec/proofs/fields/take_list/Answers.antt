use Rattle.std.proofs.Common.{◌++◌, arith}
use Rattle.std.specs.List.{flat_map}
use Rattle.std.proofs.lemmas.Result.{err_from_is_err_and}
use Rattle.event_codec.proofs.fields.take_list.Goals as goal

pub returns-in_err-count-clause-outside : goal.returns-in_err-count-clause-outside
returns-in_err-count-clause-outside g c =
    let p = err_from_is_err_and c.from_residual.result c.from_residual.ensures.1 in
    rw (p.1, p.2) (λ is v rest f e.
    c.in_err-count.ensures.outside is _ (flat_map g.T.Take.spelled v ++ rest) (omega (arith, f.0)) e)
