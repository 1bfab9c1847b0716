use Rattle.run_claim.proofs.CalmRuns.{calm-follows}
use Rattle.run_claim.proofs.what_succeeds.Goals as goal

pub returns : goal.returns
returns c = record { law = calm-follows }
