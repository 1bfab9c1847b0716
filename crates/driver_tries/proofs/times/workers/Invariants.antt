use Rattle.std.specs.Prelude.{All}
use Rattle.sub_core.specs.declared.answers.Round.{Round}
use Rattle.sub_workers.specs.Runs.{MayBegin}
use Rattle.driver_tries.proofs.times.workers.Given as goal

-- each worker so far may begin its first round
abbrev pub invariant-loop-place : goal.invariant-loop-place
invariant-loop-place g l = All (MayBegin (λ n. Unit {0}) (λ n. n.last) Round.Sync) l.workers.items
