use Rattle.std.proofs.Common.{◌≤◌, ℕ, List, length, Some, sym, ◌∙◌, ap, subst, arith}
use Rattle.campaign_core.specs.declared.fold.Fold.{Fold}
use Rattle.ucm_base.specs.Limits.{campaign_limit}
use Rattle.event_codec.specs.DecidingMaster.{fold_of}
use Rattle.event_codec.proofs.Sizes.{fold_short}
use Rattle.decision_log.proofs.Records.{fold_back}
use Rattle.decision_log.proofs.fold.PresentStored.text.Goals as goal

pub returns-clause-text : goal.returns-clause-text
returns-clause-text c =
    let f = c.self.inside.fold.now in
    ap fold_of c.in_ok-text.ensures.spelled ∙ fold_back f c.in_ok-text.ensures.form
    ∙ ap (λ (g : Fold). Some g) c.self.view_is

pub returns-clause-short : goal.returns-clause-short
returns-clause-short c =
    let f = c.self.inside.fold.now in
    let within = subst (λ (g : Fold). length g.earlier ≤ campaign_limit) (sym c.self.view_is)
    (omega (arith, c.requires)) in
    omega (
      arith,
      ap (λ (xs : List ℕ). length xs) c.in_ok-text.ensures.spelled,
      fold_short f c.in_ok-text.ensures.form within,
    )
