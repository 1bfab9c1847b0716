use Rattle.run_claim.proofs.AtRest.{stays-at-rest}
use Rattle.run_claim.proofs.what_stays.Goals as goal

pub returns : goal.returns
returns c = record { law = stays-at-rest }
