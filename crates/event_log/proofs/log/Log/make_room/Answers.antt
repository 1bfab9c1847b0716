use Rattle.std.proofs.Common.{Some}
use Rattle.checkpoint.specs.Halves.{layout_of}
use Rattle.event_log.proofs.Steps.{used_below}
use Rattle.event_log.proofs.Switches.{not_begun}
use Rattle.event_log.proofs.Elsewhere.{nowhere}
use Rattle.event_log.proofs.log.Log.make_room.Goals as goal

pub fits-requires-clause-used : goal.fits-requires-clause-used
fits-requires-clause-used g c =
    used_below g.S.Stored.start g.S.Stored.step c.args.self.now (Some c.args.present.now) _
    (c.requires.holds _ (g.met.D.Disk.reads_as_image c.args.disk.now))

pub returns-then-fits-clause-any_moment : goal.returns-then-fits-clause-any_moment
returns-then-fits-clause-any_moment g c =
    let d = g.D.Disk in
    not_begun d.moment d.left_since d.images g.S.Stored.start g.S.Stored.step c.args.self.now
    (Some c.args.present.now) c.args.disk.now c.requires.holds (g.met.D.Disk.only_now c.args.disk.now)

pub returns-then-fits-clause-elsewhere : goal.returns-then-fits-clause-elsewhere
returns-then-fits-clause-elsewhere g c =
    let d = g.D.Disk in
    nowhere d.moment d.left_since d.images (layout_of c.args.self.now.half) c.args.disk.now
    (d.seen c.args.disk.now) c.requires.durable (g.met.D.Disk.only_now c.args.disk.now)

pub fits-requires-clause-half : goal.fits-requires-clause-half
fits-requires-clause-half g c = (c.requires.holds _ (g.met.D.Disk.reads_as_image c.args.disk.now)).stands.half
