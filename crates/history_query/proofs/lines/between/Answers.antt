use Rattle.history_query.proofs.Places.{between-range}
use Rattle.history_query.proofs.lines.between.Goals as goal

pub returns : goal.returns
returns c =
    between-range c.args.ge c.args.lt c.index_of-end.result c.index_of-start.result c.args.lines.now
    c.in-Some.oldest.now c.in-Some.ensures.value c.requires.consecutive c.index_of-end.ensures
    c.index_of-start.ensures
