-- Workers over a node in memory.
use Rattle.std.specs.Prelude.{◌≤◌}
use Rattle.sub_core.specs.declared.answers.Round.{Round}
use Rattle.sub_workers.specs.declared.worker.Worker.{Worker}
use Rattle.sub_workers.specs.Runs.{IsReady, MayBegin}
use Rattle.driver_tries.specs.declared.linked.LinkedNode.{LinkedNode}

-- a history isn't longer than what the node was asked for
abbrev pub IsCounted : LinkedNode → Type 0
IsCounted n = n.node.core.held.state.entries ≤ n.node.asked

abbrev pub GoesOn : Worker LinkedNode → Type 0
GoesOn w = IsReady IsCounted (λ n. n.last) w

abbrev pub Begins : Round → Worker LinkedNode → Type 0
Begins round w = MayBegin IsCounted (λ n. n.last) round w
