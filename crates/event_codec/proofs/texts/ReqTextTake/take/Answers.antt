use Rattle.ucm_base.specs.Versions.{is_req_text}
use Rattle.event_codec.specs.Outside.{no_text}
use Rattle.event_codec.proofs.texts.ReqTextTake.take.Goals as goal

pub returns-in-Err-BadText-clause-outside : goal.returns-in-Err-BadText-clause-outside
returns-in-Err-BadText-clause-outside c =
    λ is. no_text is_req_text c.in_ok-text.text.now c.in_ok-text.rest.now c.args.bytes.now c.in_ok-text.ensures.taken
    (c.in-Err-BadText.ensures.bad c.in-Err-BadText.field-0-is)
