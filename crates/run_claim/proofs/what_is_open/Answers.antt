use Rattle.run_claim.proofs.Complete.{has-result}
use Rattle.run_claim.proofs.what_is_open.Goals as goal

pub returns : goal.returns
returns c = record { law = λ s counted e there some quiet fates. has-result s counted e there quiet fates some }
