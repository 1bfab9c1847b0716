use Rattle.pm_types.specs.Transfers.{is_of}
use Rattle.transfer_blocks.proofs.Tables.{place-is, none-is}
use Rattle.transfer_blocks.proofs.lookup.place_of.Goals as goal

pub returns-in-Some-clause-found : goal.returns-in-Some-clause-found
returns-in-Some-clause-found c =
    place-is c.as_slice-all.ensures.transfers (is_of c.args.client c.args.id) _ c.position_of.ensures c.in-Some.place
    c.index-all-place.result c.in-Some.is c.index-all-place.is

pub returns-in-None-clause-none : goal.returns-in-None-clause-none
returns-in-None-clause-none c = λ _.
    none-is c.as_slice-all.ensures.transfers (is_of c.args.client c.args.id) _ c.position_of.ensures c.in-None.is
