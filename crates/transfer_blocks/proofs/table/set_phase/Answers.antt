use Rattle.std.proofs.Common.{ap, sym, refl}
use Rattle.std.proofs.lemmas.Bool.{eqb-true}
use Rattle.pm_types.specs.Transfers.{in_phase}
use Rattle.pm_types.specs.declared.state.StoredTransfer.{StoredTransfer}
use Rattle.pm_types.specs.declared.state.Transfers.{Transfers as Table}
use Rattle.pm_types.specs.declared.transfers.Header.{Header}
use Rattle.transfer_blocks.specs.Table.{moved}
use Rattle.transfer_blocks.proofs.Tables.{others-stand, put-is, put-table}
use Rattle.transfer_blocks.proofs.table.set_phase.Goals as goal

pub returns-in-Some-clause-table : goal.returns-in-Some-clause-table
returns-in-Some-clause-table c =
    let at = c.in-Some.ensures.found in
    put-is c.requires.table at (in_phase c.args.phase)
    (λ (h : Header) (t : StoredTransfer). record t { header = h }) _ c.in_phase.ensures c.set_header.new.self
    c.set_header.ensures (λ t. (refl, refl)) c.args.id (eqb-true c.in-Some.at.header.id c.args.id at.passes)

pub returns-in-Some-clause-form : goal.returns-in-Some-clause-form
returns-in-Some-clause-form c =
    put-table c.requires.table c.in-Some.ensures.found
    (in_phase c.args.phase)
    (λ (h : Header) (t : StoredTransfer). record t { header = h }) _ c.in_phase.ensures c.set_header.new.self
    c.set_header.ensures (λ t. (refl, refl))
    (λ is. record { id = is.id; received = is.received; size = is.size; counter = is.counter; slot = is.slot })

pub returns-in_default-clause-table : goal.returns-in_default-clause-table
returns-in_default-clause-table c =
    let s : Table = c.args.transfers.now in
    ap (λ ts. record s { list = ts })
    (sym (others-stand c.args.id (moved c.args.phase) s.list (c.in_default.ensures.none refl)))
