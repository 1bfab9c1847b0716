use Rattle.node_core.proofs.Accepted.{table-within}
use Rattle.node_core.proofs.ready.Ready.do_unit.Goals as goal

pub clean_up_unit-requires : goal.clean_up_unit-requires
clean_up_unit-requires c = record { table = table-within c.self.view_is c.requires.reserved.0 c.requires.reserved.1 }
