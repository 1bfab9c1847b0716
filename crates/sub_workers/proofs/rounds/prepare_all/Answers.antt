use Rattle.std.proofs.Common.{slice_index_or, subst}
use Rattle.sub_workers.specs.Runs.{Ran}
use Rattle.sub_workers.proofs.rounds.prepare_all.Goals as goal

pub returns-clause-ran : goal.returns-clause-ran
returns-clause-ran g c i d less =
    let U = g.U.Subordinate in
    let h = (c.for_each_mut.ensures i d less).1 in
    subst (λ w. Ran U.last U.counted U.sends U.works c.args.round w (slice_index_or c.for_each_mut.new.s i d))
    h.argument_is
    (subst (λ w. Ran U.last U.counted U.sends U.works c.args.round h.argument.now w) h.left h.call.1)
