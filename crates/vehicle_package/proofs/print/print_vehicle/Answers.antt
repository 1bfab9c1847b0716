use Rattle.std.proofs.Common.{◌≡◌, ◌≤◌, ◌∙◌, ap, length, map, subst, sym, Bor, List, ℕ}
use Rattle.std.proofs.lemmas.Result.{IfOk-weaker}
use Rattle.manifest.proofs.Reading.{both}
use Rattle.ucm_base.specs.Limits.{vehicle_limit}
use Rattle.package_reader.specs.Packed.{PackedOf}
use Rattle.vehicle_package.specs.Plan.{plan_text}
use Rattle.vehicle_package.specs.Spelling.{IsVehicle, vehicle_text}
use Rattle.vehicle_package.specs.Written.{ReadsBack}
use Rattle.vehicle_package.specs.declared.vehicle.Step.{Step}
use Rattle.vehicle_package.proofs.Again.{vehicle_is_read}
use Rattle.vehicle_package.proofs.Lengths.{plan_short}
use Rattle.vehicle_package.proofs.print.print_vehicle.Goals as goal

pub returns-clause-vehicle : goal.returns-clause-vehicle
unfolding vehicle_text
returns-clause-vehicle c =
    let v = c.args.vehicle.now in
    let form = c.requires.form in
    let packages : map (λ (p : Bor (List ℕ)). p.now) c.as_slice-3.result.now
    ≡ map (λ (p : PackedOf). p.bytes) v.packages =
    ap (map (λ (p : Bor (List ℕ)). p.now)) c.as_slice-3.ensures.value ∙ c.in_ok-packages.ensures
    ∙ ap (map (λ (p : PackedOf). p.bytes)) c.as_slice.ensures in
    IfOk-weaker c.seal_vehicle.result _ _ (λ b h.
    let e : b.items ≡ vehicle_text v.steps (map (λ p. p.bytes) v.packages) =
    h.0 ∙ (λ i. vehicle_text (c.as_slice-2.ensures i) (packages i)) in
    record {
      plan = plan_text v.steps;
      spelled = e;
      whole = subst (λ (xs : List ℕ). length xs ≤ vehicle_limit) (sym e) form.whole;
      short = plan_short (length v.packages) v.steps form.few form.many form.steps;
      steps = subst (λ (ss : List Step). ReadsBack ss) c.as_slice-2.ensures h.1
          (length v.packages) form.many form.steps;
      some = form.some;
      few = form.few;
      each = form.each;
      once = form.once;
    })
    (both c.seal_vehicle.result _ _ c.seal_vehicle.ensures.text c.seal_vehicle.ensures.back)

pub returns-clause-back : goal.returns-clause-back
returns-clause-back c =
    IfOk-weaker c.seal_vehicle.result _ _ (λ b is. vehicle_is_read b.items c.args.vehicle.now is)
    (returns-clause-vehicle c)
