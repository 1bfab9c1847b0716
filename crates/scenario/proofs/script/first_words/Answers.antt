use Rattle.scenario.specs.Scripts.{text_left}
use Rattle.scenario.proofs.FirstWords.{next-word}
use Rattle.scenario.proofs.script.first_words.Goals as goal

pub words-preserved : goal.words-preserved
words-preserved c =
    rw c.in_ok-push.ensures.items
    (next-word _ c.words.words.items c.args.most c.words._i c.in-Some.text.now c.first_piece.result.0
    (text_left c.first_piece.result.1) (rw c.in-Some.is at c.words.invariant) c.words-test.true
    c.first_piece.ensures.split)
