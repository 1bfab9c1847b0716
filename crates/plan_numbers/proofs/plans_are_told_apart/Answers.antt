use Rattle.plan_numbers.proofs.Told.{told}
use Rattle.plan_numbers.proofs.plans_are_told_apart.Goals as goal

pub returns : goal.returns
returns c = told
