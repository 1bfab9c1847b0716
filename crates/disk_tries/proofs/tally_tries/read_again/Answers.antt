use Rattle.std.proofs.Common.{ℕ, List, Option, Some, sym, subst}
use Rattle.checkpoint.specs.Halves.{HasPair, layout_of}
use Rattle.checkpoint.specs.declared.layout.Layout.{Layout}
use Rattle.event_log.specs.Holds.{CanOpen}
use Rattle.event_log.proofs.Steps.{stands_for}
use Rattle.disk_tries.specs.Tallies.{tally_of, with_note}
use Rattle.disk_tries.specs.TallyLogs.{Knows}
use Rattle.disk_tries.proofs.tally_tries.read_again.Goals as goal

pub open-requires-clause-size : goal.open-requires-clause-size
open-requires-clause-size g c =
    let d = g.D.Disk in
    let log = c.args.log in
    let known = subst (λ (p : Option (List ℕ)). Knows (d.seen log.disk) (d.images log.disk) log.log log.tally p)
    c.requires.open c.requires.knows in
    let held = known.0 (d.seen log.disk) (g.met.D.Disk.reads_as_image log.disk) in
    let stands = stands_for tally_of with_note log.log (Some log.tally) (d.seen log.disk) held in
    subst (λ (disk : g.row.D.Denot). HasPair (layout_of 0) (d.seen disk)) (sym c.close.ensures)
    (subst (λ (l : Layout). HasPair l (d.seen log.disk)) c.requires.pair stands.size)

pub open-requires-clause-can : goal.open-requires-clause-can
open-requires-clause-can g c =
    let d = g.D.Disk in
    let log = c.args.log in
    let known = subst (λ (p : Option (List ℕ)). Knows (d.seen log.disk) (d.images log.disk) log.log log.tally p)
    c.requires.open c.requires.knows in
    let held = known.0 (d.seen log.disk) (g.met.D.Disk.reads_as_image log.disk) in
    let stands = stands_for tally_of with_note log.log (Some log.tally) (d.seen log.disk) held in
    subst (λ (disk : g.row.D.Denot). CanOpen tally_of (layout_of 0) (d.seen disk)) (sym c.close.ensures)
    (subst (λ (l : Layout). CanOpen tally_of l (d.seen log.disk)) c.requires.pair stands.opens)
