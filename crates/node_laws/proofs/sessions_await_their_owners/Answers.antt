use Rattle.node_laws.proofs.Others.{leaves-sessions}
use Rattle.node_laws.proofs.sessions_await_their_owners.Goals as goal

pub returns : goal.returns
returns c = record { law = leaves-sessions }
