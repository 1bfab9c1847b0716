use Rattle.std.proofs.Common.{◌≡◌, None}
use Rattle.sub_workers.proofs.Going.{HasGone}
use Rattle.sub_workers.specs.Runs.{IsReady}
use Rattle.sub_workers.proofs.rounds.drive.Given as goal

-- the worker went on so far by what its driver asked for
abbrev pub invariant-loop : goal.invariant-loop
invariant-loop g l =
    let U = g.U.Subordinate in
    (goal.iterator-loop g).can_next l.iterator' × (goal.iterator-loop g).is_finite l.iterator'
    × IsReady U.ready U.last l.worker
    × (l.worker.found ≡ None)
    × (l.worker.packages ≡ l.fn.worker.packages)
    × (l.worker.driver.round ≡ l.fn.worker.driver.round)
    × HasGone U.last U.counted U.sends U.works l.fn.worker l.worker
