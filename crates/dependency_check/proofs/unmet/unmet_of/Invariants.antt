use Rattle.std.proofs.Common.{◌≡◌, not, drop, find, map}
use Rattle.ucm_base.specs.Needs.{is_met}
use Rattle.dependency_check.specs.Clusters.{needing}
use Rattle.dependency_check.proofs.unmet.unmet_of.Given as goal

abbrev pub invariant-loop-need : goal.invariant-loop-need
invariant-loop-need l = find (λ need. not (is_met (map needing l.clusters) need)) (drop l.need-index l.needs)
    ≡ find (λ need. not (is_met (map needing l.clusters) need)) l.needs
