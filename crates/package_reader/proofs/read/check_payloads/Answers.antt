use Rattle.std.proofs.Common.{refl}
use Rattle.package_reader.proofs.read.check_payloads.Goals as goal

pub returns-in-Some : goal.returns-in-Some
returns-in-Some c = rw (← c.in-Some.ensures, c.inconsistent.ensures) refl

pub returns-in-None : goal.returns-in-None
returns-in-None c = rw (← c.in-None.ensures) refl
