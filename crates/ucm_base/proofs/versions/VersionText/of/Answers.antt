use Rattle.ucm_base.proofs.Ascii.{short-utf8}
use Rattle.ucm_base.proofs.Faults.{short-found}
use Rattle.ucm_base.proofs.versions.VersionText.of.Goals as goal

pub returns-in_default-from_utf8-clause-bad : goal.returns-in_default-from_utf8-clause-bad
returns-in_default-from_utf8-clause-bad c = λ _.
    absurd (c.in_default-from_utf8.ensures.cases.0
    (short-utf8 c.args.bytes.now (short-found c.in-Some.text c.args.bytes.now c.in-Some.ensures)))
