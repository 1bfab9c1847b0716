use Rattle.std.proofs.Common.{map}
use Rattle.run_script.specs.InForm.{IsShared}
use Rattle.run_script.proofs.Reached.{is_shared, read-in-form}
use Rattle.run_script.proofs.read.read_common.Goals as goal

pub returns-clause-form : goal.returns-clause-form
returns-clause-form c =
    read-in-form IsShared c.read_shared.result _
    (is_shared c.args.attachments.now c.args.first.now (map (λ w. w.now) c.args.words.now)) c.read_shared.ensures.0
