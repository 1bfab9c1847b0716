use Rattle.std.proofs.Common.{◌≡◌, ◌≤◌, ◌-◌, ◌++◌, replicate, None, vec_len}
use Rattle.disk_mem.proofs.pages.lengthen.Given as goal

abbrev pub invariant-loop-place : goal.invariant-loop-place
invariant-loop-place l = record {
  made : l._place ≡ vec_len l.table;
  kept : vec_len l.initial.table ≤ vec_len l.table;
  items : l.table.items ≡ l.initial.table.items ++ replicate (vec_len l.table - vec_len l.initial.table) None;
}
