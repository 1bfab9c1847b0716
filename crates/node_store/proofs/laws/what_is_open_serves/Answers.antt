use Rattle.node_store.proofs.Entered.{open_serves}
use Rattle.node_store.proofs.laws.what_is_open_serves.Goals as goal

pub returns : goal.returns
returns g c log r d k = open_serves log r (g.D.Disk.seen d) (g.D.Disk.images d) k
