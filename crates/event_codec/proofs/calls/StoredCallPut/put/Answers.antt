use Rattle.std.proofs.Common.{append_assoc, ◌∙◌}
use Rattle.std.proofs.lemmas.Result.{on_ok_weaker}
use Rattle.event_codec.proofs.calls.StoredCallPut.put.Goals as goal

pub returns-in_ok-put-in-TransferData-3-clause-appended : goal.returns-in_ok-put-in-TransferData-3-clause-appended
returns-in_ok-put-in-TransferData-3-clause-appended c =
    rw c.in-TransferData.is (on_ok_weaker c.put-in-TransferData-4.result (λ e. e
    ∙ rw (
      c.in_ok-put-in-TransferData-3.ensures.appended,
      c.in_ok-put-in-TransferData-2.ensures.appended,
      c.in_ok-put-in-TransferData.ensures.appended,
    ) (simp append_assoc)) c.put-in-TransferData-4.ensures.appended)
