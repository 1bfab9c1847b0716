use Rattle.node_core.proofs.Names.{ap, map, planned, [], ◌∙◌}
use Rattle.dependency_check.specs.Clusters.{needing}
use Rattle.node_core.specs.Sessions.{needing_of}
use Rattle.node_core.specs.Units.{planned_of}
use Rattle.node_core.proofs.Rising.{needing-rises, planned-rises}
use Rattle.node_core.proofs.opening.unmet_refusal.Goals as goal

pub missing-requires : goal.missing-requires
missing-requires c = record {
  rise =
      needing-rises c.as_slice-2.result.now (planned c.args.changes.now c.args.saved.now)
      (ap (map needing) c.as_slice-2.ensures.value ∙ c.in_ok-all.ensures
      ∙ ap (λ xs. map needing_of (map planned_of xs)) c.as_slice.ensures.value ∙ ap (map needing_of)
      c.in_ok-plan.ensures)
      (planned-rises (record { slots = []; sides = [] }) c.args.saved.now c.args.changes.now c.requires.rise);
}
