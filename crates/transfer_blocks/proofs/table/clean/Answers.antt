use Rattle.std.proofs.Common.{subst, sym}
use Rattle.pm_types.specs.NodeState.{outlasts}
use Rattle.pm_types.specs.declared.state.StoredTransfer.{StoredTransfer}
use Rattle.pm_types.specs.declared.state.Transfers.{Transfers as Table}
use Rattle.transfer_blocks.specs.Table.{IsTable}
use Rattle.transfer_blocks.proofs.Tables.{table-filter}
use Rattle.transfer_blocks.proofs.table.clean.Goals as goal

pub returns-clause-form : goal.returns-clause-form
returns-clause-form c =
    let s : Table = c.args.transfers.now in
    subst (λ ts. IsTable (record s { list = ts })) (sym c.remove_processed.ensures)
    (table-filter (λ (t : StoredTransfer). outlasts t.header) s c.requires.table)
