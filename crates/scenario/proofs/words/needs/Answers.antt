use Rattle.std.proofs.lemmas.Result.{err_from_is_err_and}
use Rattle.std.proofs.lemmas.List.{length_push}
use Rattle.scenario.proofs.NeedWords.{next-read, next-refused}
use Rattle.scenario.proofs.words.needs.Goals as goal

pub returns-in_err-need : goal.returns-in_err-need
returns-in_err-need c =
    let p = err_from_is_err_and c.from_residual.result c.from_residual.ensures.1 in
    rw p.1 (
      tt,
      λ why e. next-refused _ _ _ c.args.words.now _ why c.words.invariant.1 c.words-test.true
          (c.in_err-need.ensures.1 why cc),
    )

pub words-preserved : goal.words-preserved
words-preserved c = (
  rw (c.in_ok-push.ensures.items, length_push, c.words.invariant.0),
  rw c.in_ok-push.ensures.items
      (next-read _ _ _ c.args.words.now _ _ c.words.invariant.1 c.words-test.true c.in_ok-need.ensures.0),
)
