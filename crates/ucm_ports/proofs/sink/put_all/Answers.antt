use Rattle.std.proofs.Common.{arith}
use Rattle.ucm_ports.proofs.Told.{put-next}
use Rattle.ucm_ports.proofs.sink.put_all.Goals as goal

pub loop-done-preserved : goal.loop-done-preserved
loop-done-preserved g c = record {
  put = put-next _ _ _ _ _ c.args.bytes.now c.loop-done.invariant.put c.in_ok-done.ensures.put;
  within = omega (arith, c.in_ok-done.ensures.within);
  count = omega (arith, c.put.ensures.count);
}
