use Rattle.node_core.proofs.Names.{◌∙◌}
use Rattle.node_core.specs.Reserves.{Copies}
use Rattle.node_core.proofs.Reserved.{failed-reserves, nothing-handed, nothing-reserves, reserves-same}
use Rattle.node_core.proofs.ready.Ready.make_unit_ready.Goals as goal

pub returns-in_ok-prepared-in-Processing-clause-reserves : goal.returns-in_ok-prepared-in-Processing-clause-reserves
returns-in_ok-prepared-in-Processing-clause-reserves g c =
    reserves-same (λ a s. Copies (g.S.Staging.areas a) s) (λ a s. Copies (g.S.Staging.areas a) s)
    (λ i. (c.args.staging.now, (c.self.view_is i).state))
    (λ step brought. brought) (λ held ready. ready) c.in_ok-prepared-in-Processing.ensures.reserves

pub returns-in_err-prepared-in-Processing-clause-reserves : goal.returns-in_err-prepared-in-Processing-clause-reserves
returns-in_err-prepared-in-Processing-clause-reserves g c =
    failed-reserves _ _ c.from_residual.ensures.1
    (reserves-same (λ a s. Copies (g.S.Staging.areas a) s) (λ a s. Copies (g.S.Staging.areas a) s)
    (λ i. (c.args.staging.now, (c.self.view_is i).state)) (λ step brought. brought) (λ held ready. ready)
    c.in_err-prepared-in-Processing.ensures.reserves)

pub returns-in_ok-reserve_clusters-in_default-clause-reserves :
    goal.returns-in_ok-reserve_clusters-in_default-clause-reserves
returns-in_ok-reserve_clusters-in_default-clause-reserves g c =
    nothing-reserves g.S.Staging.obeys g.S.Staging.areas c.args.self.now.state _ (λ end. tt) c.requires.sound
    (λ held fit stand. c.in_ok-reserve_clusters-in_default.ensures.ready (λ busy. c.in_default.not-Processing
    ((λ i. (c.self-inside.view_is i).state.status) ∙ (λ i. (c.self.view_is i).state.status) ∙ busy)) held)

pub returns-in_err-reserve_clusters-in_default-clause-reserves :
    goal.returns-in_err-reserve_clusters-in_default-clause-reserves
returns-in_err-reserve_clusters-in_default-clause-reserves g c =
    nothing-handed g.S.Staging.obeys g.S.Staging.areas _
    c.from_residual-in_err-reserve_clusters-in_default.ensures.1 (λ end. tt) c.requires.sound
