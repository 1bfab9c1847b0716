use Rattle.node_core.specs.Core.{over}
use Rattle.node_recovery.proofs.Recorded.{recorded}
use Rattle.node_recovery.proofs.laws.what_a_call_does_is_recorded.Goals as goal

pub returns : goal.returns
returns c = record {
  law = λ r client call_no call room areas sound ready.
      recorded (over areas r) client call_no call room sound ready;
}
