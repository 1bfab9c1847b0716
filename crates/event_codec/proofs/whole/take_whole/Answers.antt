use Rattle.std.proofs.Common.{[], sym, ◌∙◌}
use Rattle.std.proofs.lemmas.List.{append-nil}
use Rattle.event_codec.proofs.Lists.{goes_on}
use Rattle.event_codec.proofs.whole.take_whole.Goals as goal

pub returns-else-is_empty : goal.returns-else-is_empty
returns-else-is_empty g c =
    goes_on g.T.Take.spelled g.T.Take.fits g.met.T.Take.unique c.in-Ok.value c.args.bytes.now c.in-Ok.rest.now
    c.in-Ok.ensures.taken.0 c.in-Ok.ensures.taken.1 (sym c.is_empty.ensures ∙ c.if-is_empty.false)

pub returns-in-Err-Outside : goal.returns-in-Err-Outside
returns-in-Err-Outside g c =
    λ v f e. c.in-Err-Outside.ensures.outside c.in-Err-Outside.field-0-is v [] f (e
    ∙ sym (append-nil (g.T.Take.spelled v)))
