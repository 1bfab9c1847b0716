use Rattle.std.proofs.Common.{◌∙◌}
use Rattle.std.proofs.lemmas.Result.{IfOk-weaker}
use Rattle.vehicle_package.specs.Changes.{parts_of}
use Rattle.vehicle_package.proofs.Manifests.{changes-by}
use Rattle.vehicle_package.proofs.changes.changes_of.Goals as goal

pub returns : goal.returns
returns c =
    IfOk-weaker c.changes_on.result _ _ (λ changes h. h
    ∙ changes-by c.args.step.node c.parts_of.result.now
    (parts_of c.args.packages.now c.args.step) c.parts_of.ensures.manifests) c.changes_on.ensures
