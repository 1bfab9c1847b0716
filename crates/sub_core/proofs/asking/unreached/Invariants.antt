use Rattle.std.proofs.Common.{◌≡◌, ◌+◌, ◌≤◌, drop, min, sum_by}
use Rattle.sub_core.specs.Failures.{last_count}
use Rattle.sub_core.proofs.asking.unreached.Given as goal

-- with the rises of the attempts that are left, the sums come to those of all
abbrev pub invariant-loop-rises : goal.invariant-loop-rises
invariant-loop-rises l =
    (min last_count (l.losses + sum_by (λ r. r.losses) (drop l.rises-index l.misses))
    ≡ min last_count (sum_by (λ r. r.losses) l.fn.misses))
    × (min last_count (l.faults + sum_by (λ r. r.faults) (drop l.rises-index l.misses))
    ≡ min last_count (sum_by (λ r. r.faults) l.fn.misses))
    × (l.losses ≤ last_count) × (l.faults ≤ last_count)
