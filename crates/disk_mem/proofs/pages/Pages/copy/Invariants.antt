use Rattle.std.proofs.Common.{◌≡◌, ◌≤◌, ◌+◌, ◌-◌, ◌++◌, vec_len, vec_capacity}
use Rattle.std.specs.List.{slice_range}
use Rattle.disk_mem.proofs.Steps.{reached}
use Rattle.disk_mem.proofs.pages.Pages.copy.Given as goal

abbrev pub invariant-loop-index : goal.invariant-loop-index
invariant-loop-index l = record {
  bytes : l.out.items ≡ l.initial.out.items ++ slice_range l.self.bytes l.start (reached l.start l.end l.index);
  len : vec_len l.out ≡ vec_len l.initial.out + (reached l.start l.end l.index - l.start);
  capacity : vec_capacity l.initial.out ≤ vec_capacity l.out;
}
