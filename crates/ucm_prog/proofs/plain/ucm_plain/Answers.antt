use Rattle.std.proofs.Common.{subst}
use Rattle.ucm_prog.specs.Outcome.{IsWritten}
use Rattle.ucm_prog.proofs.Outputs.{written_so}
use Rattle.ucm_prog.proofs.plain.ucm_plain.Goals as goal

pub returns-in_default-clause-usage_is_written : goal.returns-in_default-clause-usage_is_written
returns-in_default-clause-usage_is_written g c = λ is.
    let K = g.K.Sink in
    subst
    (λ t. IsWritten (K.written c.args.sink.now) (K.written c.put_all.new.sink) t (K.fault_count c.args.sink.now)
    (K.fault_count c.put_all.new.sink))
    c.as_bytes.ensures.value
    (written_so c.put_all.result _ _ _ _ _ c.put_all.ensures.all c.put_all.ensures.prefix c.put_all.ensures.cause)
