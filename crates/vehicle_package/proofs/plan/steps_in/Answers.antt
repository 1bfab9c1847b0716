use Rattle.std.proofs.Common.{◌∙◌, ◌≡◌, Some, true, false, sym, ap, inl, inr, refl}
use Rattle.std.proofs.lemmas.Result.{err_from_is_err_and}
use Rattle.serde_json.specs.View.{items_view, view}
use Rattle.vehicle_package.proofs.Plans.{counted}
use Rattle.vehicle_package.proofs.plan.steps_in.Goals as goal

pub returns-then-not-are_few : goal.returns-then-not-are_few
returns-then-not-are_few c =
    let at = ap (λ vs. Some (items_view vs)) c.as_slice-values.ensures.value ∙ c.in-Some.ensures in (
      tt,
      inr (
        refl,
        counted c.args.count (view c.args.value.now) c.as_slice-values.result.now false at c.if-not-are_few.ensures,
      ),
    )

pub returns-in_err-items : goal.returns-in_err-items
returns-in_err-items c =
    let at = ap (λ vs. Some (items_view vs)) c.as_slice-values.ensures.value ∙ c.in-Some.ensures in
    let p = err_from_is_err_and c.from_residual.result c.from_residual.ensures.1 in
    rw (p.1, p.2) (
      tt,
      elim c.in_err-items.ensures.err [
        | inl memory ↦ inl memory
        | inr none ↦
            inr (
              none.0,
              counted c.args.count (view c.args.value.now) c.as_slice-values.result.now true at c.if-not-are_few.ensures
                  ∙ none.1,
            )
      ],
    )

pub returns : goal.returns
returns c =
    let at = ap (λ vs. Some (items_view vs)) c.as_slice-values.ensures.value ∙ c.in-Some.ensures in (
      counted c.args.count (view c.args.value.now) c.as_slice-values.result.now true at c.if-not-are_few.ensures
          ∙ c.in_ok-items.ensures.ok ∙ ap Some (sym c.of.ensures),
      tt,
    )
