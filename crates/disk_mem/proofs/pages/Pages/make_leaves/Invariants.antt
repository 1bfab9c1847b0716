use Rattle.std.proofs.Common.{◌≡◌, ◌≤◌, ◌<◌, ◌+◌, ◌-◌, ℕ}
use Rattle.disk_mem.specs.Pages.{IsMade}
use Rattle.disk_mem.proofs.pages.Pages.make_leaves.Given as goal

abbrev pub invariant-loop-index : goal.invariant-loop-index
invariant-loop-index l = record {
  bytes : l.self.bytes ≡ l.initial.self.bytes;
  spare : l.self.spare ≡ l.initial.self.spare;
  leaves : l.initial.self.leaves + l.first ≤ l.self.leaves + l.index;
  made : (k : ℕ) → l.first ≤ k → k < l.index → IsMade k l.self;
}
