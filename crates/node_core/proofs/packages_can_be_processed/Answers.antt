use Rattle.node_core.proofs.Counted.{can-process}
use Rattle.node_core.proofs.packages_can_be_processed.Goals as goal

pub returns : goal.returns
returns c = record { law = can-process }
