use Rattle.run_claim.proofs.Calm.{blame-follows}
use Rattle.run_claim.proofs.what_fails.Goals as goal

pub returns : goal.returns
returns c = record { law = blame-follows }
