use Rattle.std.proofs.Common.{◌==◌}
use Rattle.pm_types.specs.declared.transfers.Header.{Header}
use Rattle.transfer_blocks.proofs.Tables.{place-is, none-is, free-is}
use Rattle.transfer_blocks.proofs.lookup.place_of_id.Goals as goal

pub returns-in-Some-clause-found : goal.returns-in-Some-clause-found
returns-in-Some-clause-found c =
    place-is c.as_slice-all.ensures.transfers (λ (h : Header). h.id == c.args.id) _ c.position_of_id.ensures
    c.in-Some.place c.index-all-place.result c.in-Some.is c.index-all-place.is

pub returns-in-None-clause-none : goal.returns-in-None-clause-none
returns-in-None-clause-none c = λ _.
    free-is c.args.id c.args.list.now
    (none-is c.as_slice-all.ensures.transfers (λ (h : Header). h.id == c.args.id) _ c.position_of_id.ensures
    c.in-None.is)
