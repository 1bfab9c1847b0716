use Rattle.std.proofs.Common.{append_assoc, ◌∙◌}
use Rattle.std.proofs.lemmas.Result.{on_ok_weaker}
use Rattle.event_codec.proofs.lines.HappenedPut.put.Goals as goal

pub returns-in_ok-put-in-Numbered-4-clause-appended : goal.returns-in_ok-put-in-Numbered-4-clause-appended
returns-in_ok-put-in-Numbered-4-clause-appended c =
    rw c.in-Numbered.is (on_ok_weaker c.put-in-Numbered-4.result (λ e. e
    ∙ rw (
      c.in_ok-put-in-Numbered-4.ensures.appended,
      c.in_ok-put-in-Numbered-3.ensures.appended,
      c.in_ok-put-in-Numbered-2.ensures.appended,
      c.in_ok-put-in-Numbered.ensures.appended,
    ) (simp append_assoc))
    c.put-in-Numbered-4.ensures.appended)
