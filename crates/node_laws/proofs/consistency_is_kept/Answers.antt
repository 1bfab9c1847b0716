use Rattle.node_laws.proofs.Kept.{keeps-fit}
use Rattle.node_laws.proofs.consistency_is_kept.Goals as goal

pub returns : goal.returns
returns c = record { law = keeps-fit }
