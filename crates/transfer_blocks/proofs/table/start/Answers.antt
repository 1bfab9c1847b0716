use Rattle.std.proofs.Common.{◌≡◌, ◌+◌, ◌<◌, ◌≤◌, length, subst, sym, arith, rules}
use Rattle.ucm_base.specs.Limits.{transfer_limit, package_limit}
use Rattle.pm_types.specs.declared.state.Transfers.{Transfers as Table}
use Rattle.transfer_blocks.specs.Table.{IsTable, with_fresh}
use Rattle.transfer_blocks.proofs.Tables.{table-fresh}
use Rattle.transfer_blocks.proofs.table.start.Goals as goal

pub returns-clause-form : goal.returns-clause-form
returns-clause-form c =
    let s : Table = c.args.transfers.now in
    let new : Table = record { next_id = s.next_id + 1; list = c.begin.new.self } in
    let is : new ≡ with_fresh c.args.client c.args.size s = search rules in
    let few : length s.list < transfer_limit = search (rules, arith) in
    let small : c.args.size ≤ package_limit = search (rules, arith) in
    subst IsTable (sym is) (table-fresh c.args.client c.args.size s c.requires.table few small)
