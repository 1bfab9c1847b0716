use Rattle.run_claim.proofs.Sound.{sound}
use Rattle.run_claim.proofs.what_is_asked.Goals as goal

pub returns : goal.returns
returns c = record { law = sound }
