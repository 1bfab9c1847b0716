use Rattle.std.proofs.Common.{◌==◌, ◌∙◌, ap, refl, sym}
use Rattle.std.proofs.lemmas.Bool.{and_parts, eqb-true}
use Rattle.pm_types.specs.Transfers.{in_phase}
use Rattle.pm_types.specs.declared.state.StoredTransfer.{StoredTransfer}
use Rattle.pm_types.specs.declared.status.Phase.TheVariants.{Transferred}
use Rattle.pm_types.specs.declared.transfers.Header.{Header}
use Rattle.transfer_blocks.specs.Table.{good_parts, whole, with_stored}
use Rattle.transfer_blocks.proofs.Tables.{put-is, put-table}
use Rattle.transfer_blocks.proofs.table.exit.Goals as goal

pub returns-in-Good-clause-table : goal.returns-in-Good-clause-table
returns-in-Good-clause-table c =
    let at = c.in-Some.ensures.found in
    put-is c.requires.table at
    (in_phase Transferred)
    (λ (h : Header) (t : StoredTransfer). record t { header = h; contents = c.in-Good.contents }) _
    c.in_phase-whole.ensures c.set_whole.new.self c.set_whole.ensures (λ t. (refl, refl)) c.args.id
    (eqb-true c.in-Some.at.header.id c.args.id
    (and_parts (c.in-Some.at.header.id == c.args.id) (c.in-Some.at.header.client == c.args.client) at.passes).0)
    ∙ ap (λ v. with_stored c.args.id (whole (good_parts v)) c.args.transfers.now) (sym c.in-Good.is)

pub returns-in-Good-clause-form : goal.returns-in-Good-clause-form
returns-in-Good-clause-form c =
    put-table c.requires.table c.in-Some.ensures.found
    (in_phase Transferred)
    (λ (h : Header) (t : StoredTransfer). record t { header = h; contents = c.in-Good.contents }) _
    c.in_phase-whole.ensures c.set_whole.new.self c.set_whole.ensures (λ t. (refl, refl))
    (λ is. record { id = is.id; received = is.received; size = is.size; counter = is.counter; slot = is.slot })
