use Rattle.std.proofs.Common.{◌+◌, ◌*◌, length}
use Rattle.gate_counter.proofs.run.+count_beside+fn-count_beside-join+arg3.Given as goal

abbrev pub decreases-count_beside : goal.decreases-count_beside
decreases-count_beside g l = 2 * length l.parts.now

abbrev pub decreases-join+arg3 : goal.decreases-join+arg3
decreases-join+arg3 g l = 2 * length l.before.now + 1
