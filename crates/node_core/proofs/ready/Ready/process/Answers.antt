use Rattle.node_core.proofs.Names.{over}
use Rattle.node_core.proofs.Sound.{table-is}
use Rattle.node_core.proofs.ready.Ready.process.Goals as goal

pub take_up-requires-clause-table : goal.take_up-requires-clause-table
take_up-requires-clause-table c = table-is (over c.requires.accepted.0 c.args.self.now) c.requires.accepted.1
