use Rattle.std.proofs.Common.{◌≡◌, ◌++◌, length}
use Rattle.recipe.specs.Lines.{lines_in}
use Rattle.recipe.specs.Packing.{text_of}
use Rattle.recipe.proofs.packing.lines.Given as goal

abbrev pub invariant-lines : goal.invariant-lines
invariant-lines l = text_of l.made (lines_in l.input) ≡ l.text.items ++ text_of l.left (lines_in l.rest)

abbrev pub decreases-lines : goal.decreases-lines
decreases-lines l = length l.rest
