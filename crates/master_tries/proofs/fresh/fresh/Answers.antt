use Rattle.master_tries.proofs.TwoHalves.{two_fit}
use Rattle.master_tries.proofs.fresh.fresh.Goals as goal

pub formatted-requires : goal.formatted-requires
formatted-requires c = two_fit
