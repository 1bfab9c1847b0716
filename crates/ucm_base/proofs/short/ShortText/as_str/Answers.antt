use Rattle.ucm_base.proofs.Ascii.{short-utf8}
use Rattle.ucm_base.proofs.short.ShortText.as_str.Goals as goal

pub unreachable-requires : goal.unreachable-requires
unreachable-requires c = c.in-Err.ensures.cases.0 (rw c.as_bytes.ensures.bytes (short-utf8 _ c.as_bytes.ensures.form))
