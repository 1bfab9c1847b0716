use Rattle.node_core.proofs.Sound.{reading-is}
use Rattle.node_core.proofs.packages_have_parts.Goals as goal

pub returns : goal.returns
returns c = record { law = reading-is }
