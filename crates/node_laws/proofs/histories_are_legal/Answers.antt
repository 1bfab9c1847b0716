use Rattle.node_laws.proofs.Legal.{makes-legal}
use Rattle.node_laws.proofs.histories_are_legal.Goals as goal

pub returns : goal.returns
returns c = record { law = λ read. makes-legal read }
