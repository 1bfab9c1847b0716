use Rattle.node_replay.proofs.Legal.{done_is_legal}
use Rattle.node_replay.proofs.laws.what_is_done_is_legal.Goals as goal

pub returns : goal.returns
returns c = done_is_legal
