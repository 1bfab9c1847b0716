use Rattle.std.proofs.Common.{ap, Some}
use Rattle.ucm_ports.proofs.Told.{taken-next}
use Rattle.ucm_ports.proofs.memory.MemSourceSource.take.Goals as goal

pub returns-clause-taken : goal.returns-clause-taken
returns-clause-taken c =
    let bytes = c.self.inside.bytes.items in
    rw (← c.self.view_is)
    (ap Some (taken-next c.self.inside.at c.min-count.result bytes _
    (rw c.deref.ensures.value at c.copy_at.ensures.copied)))
