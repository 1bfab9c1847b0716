use Rattle.std.proofs.Common.{◌≡◌, ◌<◌, ◌∷◌, length, refl}
use Rattle.recipe.specs.Lines.{lines_in}
use Rattle.recipe.proofs.FirstLine.{first-line}
use Rattle.recipe.proofs.recipe.first_line.Goals as goal

first : (c : goal.After-unwrap_or)
    → (lines_in c.args.text.now ≡ c.first_piece.result.0.now ∷ lines_in c.unwrap_or.result.now)
    × (length c.unwrap_or.result.now < length c.args.text.now)
first c =
    rw c.unwrap_or.ensures (first-line _ _ _ _ refl c.requires c.first_piece.ensures.split c.first_piece.ensures.size)

pub returns-clause-lines : goal.returns-clause-lines
returns-clause-lines c = (first c).0

pub returns-clause-rest : goal.returns-clause-rest
returns-clause-rest c = (first c).1
