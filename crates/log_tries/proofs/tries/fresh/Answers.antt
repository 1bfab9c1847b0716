use Rattle.log_tries.proofs.TwoHalves.{two_fit}
use Rattle.log_tries.proofs.tries.fresh.Goals as goal

pub formatted-requires : goal.formatted-requires
formatted-requires c = two_fit
