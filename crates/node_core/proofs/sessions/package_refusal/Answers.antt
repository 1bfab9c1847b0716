use Rattle.node_core.proofs.Names.{Some, sym, ◌∙◌}
use Rattle.node_core.proofs.Refused.{package-by}
use Rattle.node_core.proofs.sessions.package_refusal.Goals as goal

pub returns-in-Some : goal.returns-in-Some
returns-in-Some c =
    package-by c.state.view_is c.args.client c.args.id c.args.tag c.find-found.result (Some c.in-Some.refusal) _
    c.find-found.ensures (sym c.in-Some.is ∙ c.package_refusal.ensures)
