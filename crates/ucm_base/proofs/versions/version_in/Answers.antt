use Rattle.std.proofs.Common.{ap, Err}
use Rattle.ucm_base.proofs.Faults.{bad-fault}
use Rattle.ucm_base.proofs.Memory.{plain-version}
use Rattle.ucm_base.proofs.versions.version_in.Goals as goal

pub returns-in-Err-clause-refused : goal.returns-in-Err-clause-refused
returns-in-Err-clause-refused c =
    λ bad. ap Err (bad-fault _ _ c.in-Err.e c.fault_of.result c.fault_of.ensures bad
    (plain-version c.args.text.now) c.in-Err.ensures.refused)
