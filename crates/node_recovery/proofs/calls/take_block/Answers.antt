use Rattle.std.proofs.Common.{◌≡◌, None, replicate, sym, ◌∙◌, subst}
use Rattle.std.proofs.lemmas.List.{length-replicate}
use Rattle.pm_types.specs.Refusals.{first_refusal}
use Rattle.pm_types.specs.Transfers.{data_refusals}
use Rattle.transfer_blocks.specs.Table.{stored_header}
use Rattle.node_recovery.proofs.Tables.{block-made}
use Rattle.node_recovery.proofs.calls.take_block.Goals as goal

pub returns : goal.returns
returns c =
    block-made c.state.view_is c.args.client c.args.id c.args.counter c.from.result (replicate c.args.length 0)
    c.block.result c.block.new.transfers (length-replicate c.args.length 0 ∙ sym c.from.ensures)
    (subst (λ n. first_refusal (data_refusals (stored_header c.args.state.now.transfers c.args.client c.args.id)
    c.args.counter n) ≡ None) (sym c.from.ensures) c.requires.may)
    c.block.ensures.reply c.block.ensures.table
