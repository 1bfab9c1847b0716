use Rattle.node_core.specs.Core.{over}
use Rattle.node_recovery.proofs.RecordedWork.{work_recorded}
use Rattle.node_recovery.proofs.laws.what_a_unit_does_is_recorded.Goals as goal

pub returns : goal.returns
returns c = record {
  law = λ r fails passed after room areas sound ready answer.
      work_recorded (over areas r) fails passed after sound ready answer room;
}
