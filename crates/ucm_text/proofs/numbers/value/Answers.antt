use Rattle.std.proofs.Common.{◌≡◌, ◌∙◌, ◌≤◌, ◌*◌, ◌+◌, ◌-◌, None, sym, ap, rules, drop, get_or, arith}
use Rattle.std.proofs.Math.ListN.{drop_of_length-le}
use Rattle.ucm_text.specs.Decimal.{value_from, value_of}
use Rattle.ucm_text.proofs.Digits.{grows, too-large, next, found, fits}
use Rattle.ucm_text.proofs.numbers.value.Goals as goal

pub returns-in_err-value : goal.returns-in_err-value
returns-in_err-value c =
    let more = c.loop-digit.value * 10 + (get_or c.args.digits.now c.loop-digit.digit-index 0 - 48) in
    let same : value_from more (drop (c.loop-digit.digit-index + 1) c.args.digits.now) ≡ value_of c.args.digits.now =
    sym (next c.loop-digit.value c.loop-digit.digit-index c.args.digits.now c.loop-digit-test.true)
    ∙ c.loop-digit.invariant.value in
    let le : more ≤ value_of c.args.digits.now = omega (
      arith,
      same,
      grows more
          (drop (c.loop-digit.digit-index + 1) c.args.digits.now),
    ) in
    let none : c.from_residual.result ≡ None = search rules in
    none ∙ too-large more _ c.in_err-value.ensures le

pub loop-digit-preserved : goal.loop-digit-preserved
loop-digit-preserved c = record {
  value =
      ap (λ v. value_from v (drop (c.loop-digit.digit-index + 1) c.args.digits.now)) (found _ _ c.in_ok-value.ensures)
      ∙ sym (next c.loop-digit.value c.loop-digit.digit-index c.args.digits.now c.loop-digit-test.true)
      ∙ c.loop-digit.invariant.value;
  fits = search rules;
}

pub returns : goal.returns
returns c = fits _ _ (sym (ap (value_from c.loop-digit.value)
    (drop_of_length-le c.args.digits.now c.loop-digit-test.false))
    ∙ c.loop-digit.invariant.value) c.loop-digit.invariant.fits
