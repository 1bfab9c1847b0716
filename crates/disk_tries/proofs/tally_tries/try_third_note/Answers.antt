use Rattle.disk_tries.proofs.FourHalves.{two_fit}
use Rattle.disk_tries.proofs.tally_tries.try_third_note.Goals as goal

pub formatted-requires : goal.formatted-requires
formatted-requires c = two_fit
