use Rattle.std.proofs.Common.{length, drop, replicate}
use Rattle.std.proofs.Math.Seq.{take-append_seam}
use Rattle.ucm_base.specs.Limits.{text_limit}
use Rattle.ucm_base.proofs.Made.{padded-made}
use Rattle.ucm_base.proofs.short.ShortText.padded.Goals as goal

pub invariant_of-result : goal.invariant_of-result
invariant_of-result c = (
  rw c.copy_from_slice.ensures.after (padded-made text_limit c.args.text.now),
  rw (
    c.copy_from_slice.ensures.after,
    take-append_seam c.args.text.now (drop (length c.args.text.now) (replicate text_limit 0)),
  ) c.requires.short,
)
