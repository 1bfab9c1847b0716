use Rattle.node_core.proofs.Opened.{within}
use Rattle.node_core.proofs.Accepted.{table-within}
use Rattle.node_core.proofs.ready.Ready.start.Goals as goal

pub start-requires : goal.start-requires
start-requires c =
    record { table = table-within (within c.state.view_is c.self.view_is) c.requires.accepted.0 c.requires.accepted.1 }
