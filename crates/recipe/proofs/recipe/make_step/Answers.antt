use Rattle.std.proofs.Common.{arith}
use Rattle.recipe.proofs.Forms.{too-few, too-many}
use Rattle.recipe.proofs.recipe.make_step.Goals as goal

pub returns-in_default : goal.returns-in_default
returns-in_default c = (tt, too-few c.args.made.now c.args.words.now (omega (arith, c.in_default.len_below)))

pub returns-in_default-2 : goal.returns-in_default-2
returns-in_default-2 c = (tt, too-many c.args.made.now c.args.words.now (omega (arith, c.in_default.len_at_least)))
