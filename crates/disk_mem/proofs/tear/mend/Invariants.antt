use Rattle.std.proofs.Common.{◌≡◌, ◌+◌, ◌*◌, ◌/◌, ◌≤◌, length, vec_len, vec_capacity}
use Rattle.disk_mem.specs.Tears.{total, AllWithin, mended}
use Rattle.disk_mem.proofs.tear.mend.Given as goal

abbrev pub invariant-loop-at : goal.invariant-loop-at
invariant-loop-at l = record {
  mended : mended l.ranges.items l.bytes.items l.pages.bytes
      ≡ mended l.initial.ranges.items l.initial.bytes.items l.initial.pages.bytes;
  all : total l.ranges.items ≡ length l.bytes.items;
  within : AllWithin (length l.pages.bytes) l.ranges.items;
  spare : l.initial.pages.spare + (2 * vec_len l.ranges + vec_len l.bytes / 4096)
      ≤ l.pages.spare + (2 * vec_len l.initial.ranges + vec_len l.initial.bytes / 4096);
  leaves : l.initial.pages.leaves + (2 * vec_len l.ranges + vec_len l.bytes / 2097152)
      ≤ l.pages.leaves + (2 * vec_len l.initial.ranges + vec_len l.initial.bytes / 2097152);
  ranges_capacity : vec_capacity l.ranges ≡ vec_capacity l.initial.ranges;
  bytes_capacity : vec_capacity l.bytes ≡ vec_capacity l.initial.bytes;
}

abbrev pub decreases-loop-at : goal.decreases-loop-at
decreases-loop-at l = vec_len l.ranges
