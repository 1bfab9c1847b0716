use Rattle.ucm_base.proofs.Ascii.{name-utf8}
use Rattle.ucm_base.proofs.name.ClusterName.as_str.Goals as goal

pub unreachable-requires : goal.unreachable-requires
unreachable-requires c = c.in-Err.ensures.cases.0 (rw c.as_bytes.ensures.bytes (name-utf8 _ c.as_bytes.ensures.form))
