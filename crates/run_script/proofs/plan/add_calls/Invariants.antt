use Rattle.std.proofs.Common.{◌≡◌, ◌++◌, map}
use Rattle.std.specs.List.{range_with_len}
use Rattle.run_script.proofs.plan.add_calls.Given as goal

abbrev pub invariant-loop-k : goal.invariant-loop-k
invariant-loop-k l =
    l.fails.items ≡ l.initial.fails.items ++ map (λ call. (l.line.kind, call)) (range_with_len l.line.first l.k)
