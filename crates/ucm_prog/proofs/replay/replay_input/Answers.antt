use Rattle.ucm_prog.proofs.Installing.{script-allowed}
use Rattle.ucm_prog.proofs.replay.replay_input.Goals as goal

pub on_node_1-requires-clause-allowed : goal.on_node_1-requires-clause-allowed
on_node_1-requires-clause-allowed g c = script-allowed c.args.input.now _ c.in-Ok.ensures.0
