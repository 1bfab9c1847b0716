use Rattle.node_core.proofs.Names.{IsReserved, Owning, over, subst}
use Rattle.node_core.specs.Reserves.{Brings, Reserves}
use Rattle.node_core.specs.Errors.{end_by}
use Rattle.node_core.proofs.node.Core.reserve.Goals as goal

pub returns-clause-reserves : goal.returns-clause-reserves
returns-clause-reserves g c =
    subst (λ (v : Owning _). Reserves g.S.Staging.obeys g.S.Staging.areas v.held.state
    (Brings v.held.state c.args.client c.args.no c.args.call.now) (λ held. IsReserved
    (over held c.reserve.new.self) c.args.client c.args.no c.args.call.now)
    (end_by c.reserve.result) v.staging c.reserve.new.staging) c.self.view_is c.reserve.ensures.reserves
