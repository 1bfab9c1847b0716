use Rattle.std.proofs.Common.{◌∙◌}
use Rattle.std.proofs.lemmas.Result.{IfOk-weaker, IfErr-weaker}
use Rattle.scenario.specs.Scripts.{words_of}
use Rattle.run_script.proofs.FirstWords.{same-line}
use Rattle.run_script.proofs.script.read_words.Goals as goal

pub returns-clause-read : goal.returns-clause-read
returns-clause-read c =
    let same =
    same-line c.args.number c.args.attachments.now (words_of c.args.line.now) c.first_words.new.words.items
    c.as_slice.result.now
    c.in_ok-first_words.ensures c.as_slice.ensures.value in (
      IfOk-weaker c.read_line.result _ _ (λ l h. same ∙ h) c.read_line.ensures.read.0,
      IfErr-weaker c.read_line.result _ _ (λ e h why is. same ∙ h why is) c.read_line.ensures.read.1,
    )
