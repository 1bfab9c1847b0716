use Rattle.std.proofs.Common.{◌≡◌, ◌≤◌, ◌<◌, ◌+◌, ◌-◌, ◌/◌, ℕ, take, length}
use Rattle.disk_core.specs.Bytes.{put_at}
use Rattle.disk_mem.specs.Pages.{IsMade}
use Rattle.disk_mem.proofs.Steps.{reached}
use Rattle.disk_mem.proofs.pages.Pages.write.Given as goal

abbrev pub invariant-loop-index : goal.invariant-loop-index
invariant-loop-index l = record {
  bytes : l.self.bytes ≡ put_at l.fn.self.bytes l.start (take (reached l.start l.end l.index - l.start) l.piece);
  size : length l.self.bytes ≡ length l.fn.self.bytes;
  stock : l.fn.self.spare + l.start / 4096 ≤ l.self.spare + l.index;
  leaves : l.self.leaves ≡ l.initial.self.leaves;
  made : (k : ℕ) → l.start / 2097152 ≤ k → k < (l.end - 1) / 2097152 + 1 → IsMade k l.self;
}
