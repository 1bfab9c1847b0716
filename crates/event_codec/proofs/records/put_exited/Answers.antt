use Rattle.std.proofs.Common.{append_assoc, ◌∙◌}
use Rattle.std.proofs.lemmas.Result.{on_ok_weaker}
use Rattle.event_codec.proofs.Exits.{exit_of_one, exit_of_more}
use Rattle.event_codec.proofs.records.put_exited.Goals as goal

pub returns-in_ok-put-5-clause-appended : goal.returns-in_ok-put-5-clause-appended
returns-in_ok-put-5-clause-appended c =
    rw (exit_of_one c.args.client c.args.no c.args.id c.args.parts.now c.if-parts-eq1.true)
    (on_ok_weaker c.put_many.result (λ e. e
    ∙ rw (
      c.in_ok-put-5.ensures.appended,
      c.in_ok-put-4.ensures.appended,
      c.in_ok-put-3.ensures.appended,
      c.in_ok-put-2.ensures.appended,
      c.in_ok-put.ensures.appended,
    ) (simp append_assoc)) c.put_many.ensures.appended)

pub returns-in_ok-put-9-clause-appended : goal.returns-in_ok-put-9-clause-appended
returns-in_ok-put-9-clause-appended c =
    rw (exit_of_more c.args.client c.args.no c.args.id c.args.parts.now c.if-parts-eq1.false)
    (on_ok_weaker c.put_list.result (λ e. e
    ∙ rw (
      c.in_ok-put-9.ensures.appended,
      c.in_ok-put-8.ensures.appended,
      c.in_ok-put-7.ensures.appended,
      c.in_ok-put-6.ensures.appended,
    ) (simp append_assoc)) c.put_list.ensures.appended)
