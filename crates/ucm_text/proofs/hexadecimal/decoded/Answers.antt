use Rattle.hex.proofs.HexLemmas.{decode_of-ok}
use Rattle.ucm_text.proofs.hexadecimal.decoded.Goals as goal

pub returns-in-Ok-clause-half : goal.returns-in-Ok-clause-half
returns-in-Ok-clause-half c = (decode_of-ok _ _ c.in-Ok.ensures.ok).2
