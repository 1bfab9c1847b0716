use Rattle.node_laws.proofs.GoingOn.{goes-on}
use Rattle.node_laws.proofs.Kept.{keeps-fit}
use Rattle.node_laws.proofs.Legal.{makes-legal}
use Rattle.node_laws.proofs.NewestKept.{keeps-newest}
use Rattle.node_laws.proofs.Others.{leaves-sessions}
use Rattle.node_core.proofs.Sound.{reading-is}
use Rattle.node_core.specs.Packages.{package_reading}
use Rattle.node_core.proofs.nodes_keep_their_laws.Goals as goal

pub returns : goal.returns
returns c = record {
  consistent = keeps-fit package_reading reading-is;
  legal = makes-legal package_reading;
  goes_on = goes-on package_reading;
  newest = keeps-newest package_reading;
  sessions = leaves-sessions package_reading;
}
