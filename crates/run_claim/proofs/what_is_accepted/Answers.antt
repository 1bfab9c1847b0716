use Rattle.run_claim.proofs.CalmNode.{calm-node}
use Rattle.run_claim.proofs.what_is_accepted.Goals as goal

pub returns : goal.returns
returns c = record { law = calm-node }
