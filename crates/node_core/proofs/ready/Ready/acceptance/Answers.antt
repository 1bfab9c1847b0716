use Rattle.node_core.proofs.Names.{SyncedTo, acceptance, ap, node_of, over, sym, ◌∙◌}
use Rattle.node_core.proofs.Refused.{synced-by}
use Rattle.node_core.proofs.ready.Ready.acceptance.Goals as goal

pub returns-in-Sync : goal.returns-in-Sync
returns-in-Sync c = λ areas.
    ap SyncedTo (c.synced.ensures ∙ synced-by c.self.view_is c.args.client areas)
    ∙ ap (acceptance (node_of (over areas c.args.self.now)) c.args.client) (sym c.in-Sync.is)
