use Rattle.std.proofs.Common.{◌≡◌, sym, ◌∙◌, subst}
use Rattle.pm_types.specs.declared.replies.Reached.TheVariants.{Again, Stale}
use Rattle.node_store.specs.Serving.{node_on, stepped}
use Rattle.node_store.proofs.Steps.{repeated, then_either}
use Rattle.node_store.proofs.node.Node.step.Goals as goal

pub returns-in-Done-clause-any_moment : goal.returns-in-Done-clause-any_moment
returns-in-Done-clause-any_moment g c =
    let d = g.D.Disk in
    then_either d.moment d.left_since c.args.self.now.extents.disk c.foresee.new.self.extents.disk
    c.enter.new.self.extents.disk (λ n. (stepped n c.args.client c.args.no c.args.call.now).0) _ _
    c.foresee.ensures.node c.foresee.ensures.any_moment c.enter.ensures.any_moment

pub returns-in-Again-clause-stepped : goal.returns-in-Again-clause-stepped
returns-in-Again-clause-stepped g c =
    let n = node_on c.args.self.now.ready.state (g.D.Disk.seen c.args.self.now.extents.disk) in
    subst (λ k. (k, Again c.in-Again.reply) ≡ stepped n c.args.client c.args.no c.args.call.now)
    (sym c.foresee.ensures.node)
    (repeated n c.args.client c.args.no c.args.call.now (Again c.in-Again.reply)
    (sym c.in_ok-reply.ensures.reached ∙ c.in-Again.is) (λ reply e. absurd (cc)))

pub returns-in-Stale-clause-stepped : goal.returns-in-Stale-clause-stepped
returns-in-Stale-clause-stepped g c =
    let n = node_on c.args.self.now.ready.state (g.D.Disk.seen c.args.self.now.extents.disk) in
    subst (λ k. (k, Stale c.in-Stale.last) ≡ stepped n c.args.client c.args.no c.args.call.now)
    (sym c.foresee.ensures.node)
    (repeated n c.args.client c.args.no c.args.call.now (Stale c.in-Stale.last)
    (sym c.in_ok-reply.ensures.reached ∙ c.in-Stale.is) (λ reply e. absurd (cc)))
