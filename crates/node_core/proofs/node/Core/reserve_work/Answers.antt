use Rattle.node_core.proofs.Names.{IsReservedWork, Owning, over, subst}
use Rattle.node_core.specs.Reserves.{Copies, Reserves}
use Rattle.node_core.specs.Errors.{end_by}
use Rattle.node_core.proofs.node.Core.reserve_work.Goals as goal

pub returns-clause-reserves : goal.returns-clause-reserves
returns-clause-reserves g c =
    subst (λ (v : Owning _). Reserves g.S.Staging.obeys g.S.Staging.areas v.held.state
    (Copies v.held.areas v.held.state) (λ held. IsReservedWork (over held c.reserve_work.new.self))
    (end_by c.reserve_work.result) v.staging c.reserve_work.new.staging) c.self.view_is c.reserve_work.ensures.reserves
