use Rattle.node_core.proofs.Opened.{within}
use Rattle.node_core.proofs.Accepted.{block-made, table-within}
use Rattle.node_core.proofs.ready.Ready.take_block.Goals as goal

pub block-requires : goal.block-requires
block-requires c =
    record { table = table-within (within c.state.view_is c.self.view_is) c.requires.accepted.0 c.requires.accepted.1 }

pub returns : goal.returns
returns c =
    block-made (within c.state.view_is c.self.view_is) c.args.client c.block.result c.block.new.transfers c.args.id
    c.args.counter c.args.block.now
    c.requires.accepted c.block.ensures.reply c.block.ensures.table
