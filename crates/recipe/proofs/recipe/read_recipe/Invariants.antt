use Rattle.std.proofs.Common.{◌≡◌, ◌+◌, ◌≤◌, length}
use Rattle.recipe.specs.Lines.{lines_in}
use Rattle.recipe.specs.Recipes.{made_from, recipe_of}
use Rattle.recipe.proofs.recipe.read_recipe.Given as goal

abbrev pub invariant-lines : goal.invariant-lines
invariant-lines l = record {
  made : recipe_of l.input ≡ made_from l.number l.made (lines_in l.rest);
  number : l.number + length l.rest ≤ length l.input + 1;
}

abbrev pub decreases-lines : goal.decreases-lines
decreases-lines l = length l.rest
