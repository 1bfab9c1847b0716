use Rattle.node_core.proofs.Names.{IsReady, Readied, ap, is_some, over, refl, subst, sym, ◌∙◌}
use Rattle.node_core.specs.Reserves.{Brings, BringsNew}
use Rattle.node_core.proofs.Reserved.{brings-new, failed-reserves, none-is, nothing-reserves, reserves-same}
use Rattle.node_core.proofs.ready.Ready.make_ready.Goals as goal

pub returns-then-is_some-clause-reserves : goal.returns-then-is_some-clause-reserves
returns-then-is_some-clause-reserves g c =
    nothing-reserves g.S.Staging.obeys g.S.Staging.areas c.args.self.now.state _ (λ end. tt) c.requires.sound
    (λ held fit stand newer. let some = c.if-is_some.ensures ∙ ap is_some (c.repeated.ensures.repeat ∙ newer) in
    absurd (cc some))

pub returns-in_err-prepared-clause-reserves : goal.returns-in_err-prepared-clause-reserves
returns-in_err-prepared-clause-reserves g c =
    failed-reserves _ _ c.from_residual.ensures.1
    (reserves-same (λ a s. BringsNew s c.args.client c.args.call.now) (λ a s. Brings s c.args.client c.args.no
    c.args.call.now)
    refl
    (brings-new c.args.self.now.state c.args.client c.args.no c.args.call.now (sym (c.repeated.ensures.repeat)
    ∙ none-is _ c.if-is_some.ensures)) (λ held ready. ready) c.in_err-prepared.ensures.reserves)

pub returns-clause-reserves : goal.returns-clause-reserves
returns-clause-reserves g c =
    reserves-same (λ a s. BringsNew s c.args.client c.args.call.now) (λ a s. Brings s c.args.client c.args.no
    c.args.call.now)
    refl
    (brings-new c.args.self.now.state c.args.client c.args.no c.args.call.now (sym (c.repeated.ensures.repeat)
    ∙ none-is _ c.if-is_some.ensures)) (λ held ready newer.
    subst (λ (r : Readied). IsReady (over held (record r { prepared = c.in_ok-prepared.prepared })) c.args.client
    c.args.call.now) (sym c.self.view_is) ready) c.in_ok-prepared.ensures.reserves
