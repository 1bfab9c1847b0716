use Rattle.node_core.proofs.Opened.{within}
use Rattle.node_core.proofs.Accepted.{delete-made, table-within}
use Rattle.node_core.proofs.ready.Ready.delete.Goals as goal

pub delete-requires : goal.delete-requires
delete-requires c =
    record { table = table-within (within c.state.view_is c.self.view_is) c.requires.accepted.0 c.requires.accepted.1 }

pub returns : goal.returns
returns c =
    delete-made (within c.state.view_is c.self.view_is) c.args.client c.delete.result c.delete.new.transfers c.args.id
    c.requires.accepted c.delete.ensures.reply c.delete.ensures.table
