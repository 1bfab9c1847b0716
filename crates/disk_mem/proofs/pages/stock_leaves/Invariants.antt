use Rattle.std.proofs.Common.{◌≤◌, vec_len}
use Rattle.disk_mem.proofs.pages.stock_leaves.Given as goal

abbrev pub invariant-loop-leaf : goal.invariant-loop-leaf
invariant-loop-leaf l = (l._leaf ≤ vec_len l.spare) × (vec_len l.initial.spare ≤ vec_len l.spare)
