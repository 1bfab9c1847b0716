use Rattle.std.proofs.Common.{sym, ◌∙◌}
use Rattle.ucm_base.specs.Short.{is_short}
use Rattle.event_codec.specs.Outside.{no_text, not_there}
use Rattle.event_codec.proofs.texts.ShortTextTake.take.Goals as goal

pub returns-in-None-clause-outside : goal.returns-in-None-clause-outside
returns-in-None-clause-outside c =
    λ is. no_text is_short c.in_ok-text.text.now c.in_ok-text.rest.now c.args.bytes.now c.in_ok-text.ensures.taken
    (not_there _ _ (sym c.of.ensures ∙ c.in-None.is))
