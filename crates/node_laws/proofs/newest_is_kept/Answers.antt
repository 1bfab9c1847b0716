use Rattle.node_laws.proofs.NewestKept.{keeps-newest}
use Rattle.node_laws.proofs.newest_is_kept.Goals as goal

pub returns : goal.returns
returns c = record { law = keeps-newest }
