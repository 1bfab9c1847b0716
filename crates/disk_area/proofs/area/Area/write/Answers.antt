use Rattle.std.proofs.Common.{length, arith}
use Rattle.std.proofs.lemmas.Result.{on_ok_weaker}
use Rattle.disk_area.proofs.Windows.{window_put, window_torn}
use Rattle.disk_area.proofs.area.Area.write.Goals as goal

pub returns-clause-written : goal.returns-clause-written
returns-clause-written g c =
    on_ok_weaker c.write.result (window_put c.args.self.now c.args.at c.args.bytes.now _ _ c.requires.range
    c.requires.inside) c.write.ensures.written

pub returns-clause-reads : goal.returns-clause-reads
returns-clause-reads g c =
    window_torn c.args.self.now c.args.at (length c.args.bytes.now) _ _ c.requires.range c.requires.inside
    c.write.ensures.reads

pub returns-clause-images : goal.returns-clause-images
returns-clause-images g c x now =
    let was = c.write.ensures.images x now in (
      was.0,
      was.1,
      window_torn c.args.self.now c.args.at (length c.args.bytes.now) was.0 x c.requires.range
          (omega (arith, g.met.D.Disk.image_size c.args.disk.now was.0 was.1, c.requires.inside)) was.2,
    )
