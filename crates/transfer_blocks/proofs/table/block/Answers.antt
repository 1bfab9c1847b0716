use Rattle.std.proofs.Common.{◌≤◌, ◌+◌, ◌==◌, refl, subst, sym, arith}
use Rattle.std.proofs.lemmas.Bool.{and_parts, eqb-true}
use Rattle.pm_types.specs.Transfers.{grown}
use Rattle.pm_types.specs.declared.state.StoredTransfer.{StoredTransfer}
use Rattle.pm_types.specs.declared.transfers.Header.{Header}
use Rattle.transfer_blocks.proofs.Tables.{put-is, put-table}
use Rattle.transfer_blocks.proofs.table.block.Goals as goal

pub returns-clause-table : goal.returns-clause-table
returns-clause-table c =
    let at = c.in-Some.ensures.found in
    put-is c.requires.table at (grown c.args.length)
    (λ (h : Header) (t : StoredTransfer). record t { header = h }) _ c.grown.ensures c.set_header.new.self
    c.set_header.ensures (λ t. (refl, refl)) c.args.id
    (eqb-true c.in-Some.at.header.id c.args.id
    (and_parts (c.in-Some.at.header.id == c.args.id) (c.in-Some.at.header.client == c.args.client) at.passes).0)

pub returns-clause-form : goal.returns-clause-form
returns-clause-form c =
    let at = c.in-Some.ensures.found in
    let some = c.data_refusal.ensures.some c.in_default-data_refusal.is in
    put-table c.requires.table at (grown c.args.length)
    (λ (h : Header) (t : StoredTransfer). record t { header = h }) _ c.grown.ensures c.set_header.new.self
    c.set_header.ensures (λ t. (refl, refl))
    (λ is. record {
      id = is.id;
      received = subst (λ (h : Header). h.received + c.args.length ≤ h.size) (sym at.header)
          (c.data_refusal.ensures.fits c.in_default-data_refusal.is);
      size = is.size;
      counter = omega (arith, is.counter, some);
      slot = is.slot;
    })
