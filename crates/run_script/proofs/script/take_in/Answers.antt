use Rattle.std.proofs.lemmas.Result.{on_ok_weaker}
use Rattle.run_script.proofs.Forms.{form-kept}
use Rattle.run_script.proofs.script.take_in.Goals as goal

pub returns-clause-form : goal.returns-clause-form
returns-clause-form c =
    on_ok_weaker c.add.result
    (λ e. form-kept c.args.number c.args.above.now c.add.new.above c.in_ok-read.read c.in_ok-read.ensures.form
    c.requires.form e) c.add.ensures.read.0
