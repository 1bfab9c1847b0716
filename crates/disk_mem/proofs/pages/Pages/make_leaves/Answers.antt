use Rattle.std.proofs.Common.{arith}
use Rattle.disk_mem.proofs.pages.Pages.make_leaves.Goals as goal

pub returns-clause-leaves : goal.returns-clause-leaves
returns-clause-leaves c = omega (
  arith,
  c.loop-index.invariant.leaves,
  c.loop-index-test.false,
  c.loop-index.auto.index-end c.requires.order,
)
