use Rattle.node_core.proofs.Opened.{within}
use Rattle.node_core.proofs.Accepted.{close-made, table-within}
use Rattle.node_core.proofs.ready.Ready.close.Goals as goal

pub exit-requires : goal.exit-requires
exit-requires c =
    record { table = table-within (within c.state.view_is c.self.view_is) c.requires.accepted.0 c.requires.accepted.1 }

pub returns : goal.returns
returns c =
    close-made (within c.state.view_is c.self.view_is) c.args.client c.exit.result c.exit.new.transfers c.args.id
    c.take_verdict-verdict.result c.take_verdict-verdict.ensures
    c.requires.accepted c.exit.ensures.reply c.exit.ensures.table
