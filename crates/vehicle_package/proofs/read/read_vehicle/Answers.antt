use Rattle.std.proofs.Common.{◌≡◌, inl, inr, rules}
use Rattle.std.proofs.lemmas.Result.{IfErr-weaker, IfOk-weaker}
use Rattle.vehicle_package.specs.Reading.{vehicle_of}
use Rattle.vehicle_package.proofs.Again.{vehicle_is_read}
use Rattle.vehicle_package.proofs.Steps.{never-both}
use Rattle.vehicle_package.proofs.Taken.{reading_is_vehicle}
use Rattle.vehicle_package.proofs.read.read_vehicle.Goals as goal

pub returns-clause-vehicle : goal.returns-clause-vehicle
returns-clause-vehicle c =
    IfOk-weaker c.vehicle_of.result _ _ (λ v e. reading_is_vehicle c.args.bytes.now (λ i. let small =
    c.type_inv.bytes i in search rules) v e) c.vehicle_of.ensures.answer.0

pub returns-clause-only : goal.returns-clause-only
returns-clause-only c v is =
    IfErr-weaker c.vehicle_of.result _ _ (λ e told. elim told [
      | inl memory ↦ memory
      | inr refused ↦
          absurd (never-both (vehicle_of c.args.bytes.now) v e (vehicle_is_read c.args.bytes.now v is) refused)
    ]) c.vehicle_of.ensures.answer.1
