use Rattle.std.proofs.Common.{sym, ◌∙◌}
use Rattle.ucm_base.specs.Name.{is_cluster_name}
use Rattle.event_codec.specs.Outside.{no_text, refused}
use Rattle.event_codec.proofs.texts.ClusterNameTake.take.Goals as goal

pub returns-in-Err-clause-outside : goal.returns-in-Err-clause-outside
returns-in-Err-clause-outside c =
    λ is. no_text is_cluster_name c.in_ok-text.text.now c.in_ok-text.rest.now c.args.bytes.now
    c.in_ok-text.ensures.taken (refused _ _ _ _ (sym c.of.ensures ∙ c.in-Err.is))
