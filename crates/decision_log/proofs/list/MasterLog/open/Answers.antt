use Rattle.std.proofs.Common.{sym, subst}
use Rattle.decision_log.specs.Left.{MayOpen}
use Rattle.decision_log.proofs.Left.{can_open, open_known, open_some}
use Rattle.decision_log.proofs.list.MasterLog.open.Goals as goal

pub open-requires-clause-can : goal.open-requires-clause-can
open-requires-clause-can g c = can_open (g.D.Disk.seen c.args.disk) c.requires.left

pub returns-in-Ok-Some-folded-clause-known : goal.returns-in-Ok-Some-folded-clause-known
returns-in-Ok-Some-folded-clause-known g c =
    let d = g.D.Disk in
    let found = c.in-Ok-Some.found in
    let disk = c.open.new.disk in
    let is = rw c.in-Ok-Some.field-0-is at c.in-Ok-Some.ensures.found in
    let holds = rw c.in-Ok-Some.field-0-is at c.in-Ok-Some.ensures.holds in
    let folded = rw c.in-Ok-Some-folded.field-0-is at c.in-Ok-Some-folded.ensures in
    open_known found.log found.text.items c.deref.result.now found.records c.as_slice.result.now (d.seen disk)
    (subst MayOpen (sym c.open.ensures.reads) c.requires.left) is c.deref.ensures.value
    c.as_slice.ensures c.in-Ok-Some-folded.campaign.fold (d.images disk) holds
    c.in-Ok-Some.ensures.durable folded

pub unreachable-requires : goal.unreachable-requires
unreachable-requires g c =
    let d = g.D.Disk in
    let found = c.in-Ok-Some.found in
    let is = rw c.in-Ok-Some.field-0-is at c.in-Ok-Some.ensures.found in
    let folded = rw c.in-Ok-None-folded.field-0-is at c.in-Ok-None-folded.ensures in
    open_some found.log found.text.items c.deref.result.now found.records c.as_slice.result.now
    (d.seen c.open.new.disk) (subst MayOpen (sym c.open.ensures.reads) c.requires.left) is
    c.deref.ensures.value c.as_slice.ensures folded
