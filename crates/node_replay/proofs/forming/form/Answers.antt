use Rattle.std.proofs.Common.{◌≡◌, ℕ, suc, ◌+◌, ◌≤◌, ◌<◌, refl, subst, sym, ap, ◌∙◌, arith}
use Rattle.fault_count.specs.Faults.{HasRisen}
use Rattle.ucm_base.specs.Limits.{attempt_limit}
use Rattle.node_replay.specs.Done.{RoseIn}
use Rattle.node_replay.proofs.forming.form.Goals as goal

one-more : (attempts before between now : ℕ) → RoseIn attempts before between → HasRisen between now
    → RoseIn (attempts + 1) before now
one-more attempts before between now rose risen =
    let same : suc attempts ≡ attempts + 1 = omega arith in
    subst (λ n. RoseIn n before now) same (between, rose, risen)

pub attempts-preserved : goal.attempts-preserved
attempts-preserved g c =
    let i = c.attempts.invariant in
    let again = c.in-Err-default-Failed.ensures.again in record {
      extents = again.0;
      blank = again.1;
      plan = again.3 ∙ i.plan;
      fewer = omega (arith, again.4, i.fewer);
      few = omega (arith, c.attempts-test.true);
      rose = one-more c.attempts.attempt _ _ _ i.rose (again.5 c.in-Err-default-Failed.field-0-1-is);
    }

all-made : (n : ℕ) → n ≤ attempt_limit → attempt_limit ≤ n → n ≡ attempt_limit
all-made n few none = omega (arith, few, none)

pub returns-clause-rose : goal.returns-clause-rose
returns-clause-rose g c = λ is.
    let i = c.attempts.invariant in
    subst (λ n. RoseIn n (g.D.Disk.fault_count c.args.disk) (g.D.Disk.fault_count c.attempts.disk))
    (all-made c.attempts.attempt i.few c.attempts-test.false) i.rose
