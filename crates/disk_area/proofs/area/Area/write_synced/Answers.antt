use Rattle.std.proofs.Common.{length}
use Rattle.disk_core.specs.Bytes.{Torn}
use Rattle.disk_core.specs.Images.{From}
use Rattle.disk_core.proofs.Pieces.{torn_none}
use Rattle.disk_core.proofs.Moments.{started, goes_on}
use Rattle.disk_area.specs.Windows.{InArea}
use Rattle.disk_area.proofs.Steps.{stays}
use Rattle.disk_area.proofs.area.Area.write_synced.Goals as goal

pub returns-clause-any_moment : goal.returns-clause-any_moment
returns-clause-any_moment g c =
    let old = c.args.disk.now in
    let step = InArea c.args.self.now (Torn c.args.at (length c.args.bytes.now)) in
    let P = From (g.D.Disk.images old) step in
    let at_start =
    started g.D.Disk.moment g.D.Disk.left_since old P
    (λ x left. (x, g.met.D.Disk.only_now old x left, stays c.args.self.now _ x (torn_none _ _ _))) in
    let wrote =
    goes_on g.D.Disk.moment g.D.Disk.left_since old old c.write.new.disk P _ at_start c.write.ensures.time
    c.write.ensures.images in
    goes_on g.D.Disk.moment g.D.Disk.left_since old c.write.new.disk c.sync.new.disk P _ wrote c.sync.ensures.time
    (λ x now. c.write.ensures.images x (c.sync.ensures.images x now))
