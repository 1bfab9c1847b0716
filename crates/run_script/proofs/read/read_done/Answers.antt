use Rattle.std.proofs.Common.{map}
use Rattle.run_script.specs.InForm.{IsDone}
use Rattle.run_script.proofs.Reached.{is_done, read-in-form}
use Rattle.run_script.proofs.read.read_done.Goals as goal

pub returns-clause-form : goal.returns-clause-form
returns-clause-form c =
    read-in-form IsDone c.read_event.result _
    (is_done c.args.attachments.now c.args.first.now (map (λ w. w.now) c.args.words.now)) c.read_event.ensures.0
