use Rattle.std.proofs.Common.{◌≡◌, ◌+◌, ◌≤◌, ℕ, List, length, drop, min, sum_by, ap, arith}
use Rattle.std.proofs.Math.ListN.{drop_of_length-le}
use Rattle.sub_core.specs.declared.answers.Rises.{Rises}
use Rattle.sub_core.specs.Failures.{last_count}
use Rattle.sub_core.proofs.asking.unreached.Goals as goal

-- where none is left, the sum so far is the sum of all
all_added : (f : Rises → ℕ) (sum place : ℕ) (all : List Rises) → length all ≤ place → sum ≤ last_count
    → min last_count (sum + sum_by f (drop place all)) ≡ min last_count (sum_by f all)
    → sum ≡ min last_count (sum_by f all)
all_added f sum place all end fits is =
    let none : sum_by f (drop place all) ≡ 0 = ap (sum_by f) (drop_of_length-le all end) in
    omega (arith, none, is, fits)

pub returns : goal.returns
returns c =
    let i = c.loop-rises.invariant in
    let end : length c.args.misses.now ≤ c.loop-rises.rises-index = grind (arith, c.loop-rises-test.false) in
    let losses = all_added (λ r. r.losses) c.loop-rises.losses c.loop-rises.rises-index c.args.misses.now end i.2 i.0 in
    let faults = all_added (λ r. r.faults) c.loop-rises.faults c.loop-rises.rises-index c.args.misses.now end i.3 i.1 in
    cc
