use Rattle.std.proofs.Common.{◌∙◌, refl}
use Rattle.semver.proofs.EvalViews.{matches_all-views}
use Rattle.ucm_base.proofs.versions.ReqText.accepts.Goals as goal

pub returns : goal.returns
returns c =
    c.matches.ensures ∙ matches_all-views c.self.inside.req.comparators.items c.version.inside.version
    ∙ rw (← c.self.view_is, ← c.version.view_is, c.self.invariant, c.version.invariant) refl
