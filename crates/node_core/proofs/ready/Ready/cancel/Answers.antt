use Rattle.node_core.proofs.Accepted.{table-within}
use Rattle.node_core.proofs.ready.Ready.cancel.Goals as goal

pub put_back-requires : goal.put_back-requires
put_back-requires c = record { table = table-within c.self.view_is c.requires.accepted.0 c.requires.accepted.1 }
