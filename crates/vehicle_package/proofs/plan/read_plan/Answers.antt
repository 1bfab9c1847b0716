use Rattle.std.proofs.Common.{◌∙◌, sym, true≢false, inl, inr, refl}
use Rattle.std.proofs.lemmas.Result.{IfOk-weaker, IfErr-weaker}
use Rattle.vehicle_package.proofs.Plans.{plan_of-read, plan_of-none}
use Rattle.vehicle_package.proofs.plan.read_plan.Goals as goal

pub returns-in-Ok : goal.returns-in-Ok
returns-in-Ok c =
    let is = plan_of-read c.args.count c.args.text.now _ c.in-Ok.ensures.ok.0 c.in-Ok.ensures.ok.1 in (
      IfOk-weaker c.plan_in.result _ _ (λ steps h. is ∙ h) c.plan_in.ensures.0,
      IfErr-weaker c.plan_in.result _ _ (λ e told. elim told [
        | inl memory ↦ inl memory
        | inr none ↦ inr (none.0, is ∙ none.1)
      ]) c.plan_in.ensures.1,
    )

pub returns-in-Err-2 : goal.returns-in-Err-2
returns-in-Err-2 c = (
  tt,
  inr (
    refl,
    plan_of-none c.args.count c.args.text.now
        (c.in-Err.ensures.err (λ m. true≢false (sym (c.is_memory.ensures.1 m) ∙ c.if-is_memory.false))),
  ),
)
