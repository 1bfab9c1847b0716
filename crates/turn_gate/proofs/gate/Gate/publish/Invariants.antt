use Rattle.std.proofs.Common.{Some}
use Rattle.turn_gate.proofs.gate.Gate.publish.Given as goal

abbrev pub ghosts-publish_as : goal.ghosts-publish_as
ghosts-publish_as g a = record { told = Some a.machine.now; rise = a.rise }
