use Rattle.std.proofs.Common.{append_assoc, ◌∙◌}
use Rattle.std.proofs.lemmas.Result.{on_ok_weaker}
use Rattle.event_codec.proofs.state.HeaderPut.put.Goals as goal

pub returns-clause-appended : goal.returns-clause-appended
returns-clause-appended c =
    on_ok_weaker c.put-6.result (λ e. e
    ∙ rw (
      c.in_ok-put-5.ensures.appended,
      c.in_ok-put-4.ensures.appended,
      c.in_ok-put-3.ensures.appended,
      c.in_ok-put-2.ensures.appended,
      c.in_ok-put.ensures.appended,
    ) (simp append_assoc)) c.put-6.ensures.appended
