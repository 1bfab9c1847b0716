use Rattle.node_core.proofs.Names.{Ok, ◌∙◌}
use Rattle.node_core.proofs.Lists.{end-fault}
use Rattle.node_core.proofs.Runs.{reads-one, writes-copied, writes-failed}
use Rattle.node_core.proofs.copying.copy.Goals as goal

pub returns-in_err-bytes-clause-writes : goal.returns-in_err-bytes-clause-writes
returns-in_err-bytes-clause-writes g c =
    rw (end-fault _ _ c.from_residual.ensures.1)
    (writes-failed _ _ _ _ _ _ _ (reads-one _ _ _ _ c.in_err-bytes.ensures.obeys))

pub returns-in_err-put-clause-writes : goal.returns-in_err-put-clause-writes
returns-in_err-put-clause-writes g c =
    rw (end-fault _ _ c.from_residual-in_err-put.ensures.1)
    (writes-copied g.S.Staging.obeys _ _ _ _ c.args.staging.now c.get.new.self c.put.new.self _
    (c.as_slice.ensures.value ∙ c.in_ok-bytes.ensures.bytes) c.in_ok-bytes.ensures.obeys c.in_err-put.ensures.obeys)

pub returns-clause-writes : goal.returns-clause-writes
returns-clause-writes g c =
    writes-copied g.S.Staging.obeys _ _ _ (Ok tt) c.args.staging.now c.get.new.self c.put.new.self _
    (c.as_slice.ensures.value ∙ c.in_ok-bytes.ensures.bytes) c.in_ok-bytes.ensures.obeys c.in_ok-put.ensures.obeys
