use Rattle.node_core.proofs.Names.{Ok}
use Rattle.node_core.proofs.Lists.{end-fault}
use Rattle.node_core.proofs.Runs.{reads-one}
use Rattle.node_core.proofs.copying.number_at.Goals as goal

pub returns-in_err-bytes-clause-reads : goal.returns-in_err-bytes-clause-reads
returns-in_err-bytes-clause-reads g c =
    rw (end-fault _ _ c.from_residual.ensures.1) (reads-one _ _ _ _ c.in_err-bytes.ensures.obeys)

pub returns-in-Some-clause-reads : goal.returns-in-Some-clause-reads
returns-in-Some-clause-reads g c = reads-one g.S.Staging.obeys (Ok tt) _ _ c.in_ok-bytes.ensures.obeys
