use Rattle.scenario.proofs.Cuts.{cut-Some, cut-None}
use Rattle.scenario.proofs.words.first_piece.Goals as goal

pub returns-in-Some-clause-split : goal.returns-in-Some-clause-split
returns-in-Some-clause-split c = (cut-Some c.args.at _ _ _ c.in-Some.ensures).0

pub returns-in-Some-clause-size : goal.returns-in-Some-clause-size
returns-in-Some-clause-size c = (cut-Some c.args.at _ _ _ c.in-Some.ensures).1

pub returns-in-None-clause-split : goal.returns-in-None-clause-split
returns-in-None-clause-split c = cut-None c.args.at _ c.in-None.ensures
