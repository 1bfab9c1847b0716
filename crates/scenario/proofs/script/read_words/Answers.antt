use Rattle.std.proofs.Common.{◌∙◌}
use Rattle.std.proofs.lemmas.Result.{IfOk-weaker, IfErr-weaker}
use Rattle.scenario.specs.Scripts.{words_of}
use Rattle.scenario.proofs.FirstWords.{same-line}
use Rattle.scenario.proofs.script.read_words.Goals as goal

pub returns : goal.returns
returns c =
    let same =
    same-line c.args.attachments.now (words_of c.args.line.now) c.first_words.new.words.items c.as_slice.result.now
    c.in_ok-first_words.ensures c.as_slice.ensures.value in (
      IfOk-weaker c.read_line.result _ _ (λ l h. same ∙ h) c.read_line.ensures.0,
      IfErr-weaker c.read_line.result _ _ (λ e h why is. same ∙ h why is) c.read_line.ensures.1,
    )
