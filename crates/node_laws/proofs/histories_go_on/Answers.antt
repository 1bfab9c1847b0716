use Rattle.node_laws.proofs.GoingOn.{goes-on}
use Rattle.node_laws.proofs.histories_go_on.Goals as goal

pub returns : goal.returns
returns c = record { law = goes-on }
