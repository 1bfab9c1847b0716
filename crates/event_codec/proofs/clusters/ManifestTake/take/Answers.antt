use Rattle.std.proofs.Common.{sym, ◌∙◌}
use Rattle.std.proofs.lemmas.Result.{err_from_is_err_and}
use Rattle.wire.proofs.Spelled.{same_bytes}
use Rattle.manifest.specs.Text.{manifest_text}
use Rattle.event_codec.proofs.clusters.ManifestTake.take.Goals as goal

pub returns-in_err-text-clause-outside : goal.returns-in_err-text-clause-outside
returns-in_err-text-clause-outside c =
    let p = err_from_is_err_and c.from_residual.result c.from_residual.ensures.1 in
    rw (p.1, p.2) (λ is v rest f e. c.in_err-text.ensures.outside is (manifest_text v) rest f.1 e)

pub returns-in-Err-clause-outside : goal.returns-in-Err-clause-outside
returns-in-Err-clause-outside c = λ is v rest f e.
    let taken = c.in_ok-text.ensures.taken in
    c.in-Err.ensures.outside is v f
    (same_bytes c.in_ok-text.text.now (manifest_text v) c.in_ok-text.rest.now rest taken.1 f.1 (sym taken.0 ∙ e)).0
