use Rattle.std.proofs.Common.{◌∙◌, ap}
use Rattle.ucm_base.specs.Limits.{package_limit}
use Rattle.ucm_base.specs.Names.{all_differ}
use Rattle.node_replay.proofs.Meant.{names-meant, short-meant}
use Rattle.node_replay.proofs.running.replay.Goals as goal

pub form-requires-clause-differ : goal.form-requires-clause-differ
form-requires-clause-differ g c =
    rw (c.as_slice-2.ensures.value, c.in-Ok.ensures, c.as_slice.ensures)
    (ap all_differ (names-meant c.args.attached.now c.args.script.now.installed) ∙ c.requires.allowed.differ)

pub form-requires-clause-short : goal.form-requires-clause-short
form-requires-clause-short g c =
    rw (c.as_slice-2.ensures.value, c.in-Ok.ensures, c.as_slice.ensures)
    (short-meant package_limit c.args.attached.now c.args.script.now.installed c.requires.allowed.sizes)
