use Rattle.std.proofs.Common.{arith}
use Rattle.checkpoint.proofs.Places.{sound}
use Rattle.event_log.proofs.log.Log.fits.Goals as goal

pub overflow_add-result : goal.overflow_add-result
overflow_add-result c = omega (arith, c.requires.used, c.requires.short, (sound c.args.self.now.half).ends)

pub overflow_add-result-2 : goal.overflow_add-result-2
overflow_add-result-2 c = omega (arith, c.requires.used, c.requires.short, (sound c.args.self.now.half).ends)
