use Rattle.node_core.proofs.Names.{Call, IfOk, IsReady, Readied, TransferData, ap, holding, over}
use Rattle.node_core.proofs.Names.{subst, sym, ◌∙◌, ◌≡◌}
use Rattle.node_core.proofs.Reserved.{failed-reserves, nothing-handed, nothing-reserves, other-ready, reserves-at, stand-sound}
use Rattle.node_core.proofs.reserving.prepare.Goals as goal

pub returns-in_err-open-in-ProcessSwPackage-clause-reserves :
    goal.returns-in_err-open-in-ProcessSwPackage-clause-reserves
returns-in_err-open-in-ProcessSwPackage-clause-reserves g c =
    nothing-handed g.S.Staging.obeys g.S.Staging.areas _ c.from_residual-in_err-open-in-ProcessSwPackage.ensures.1
    (λ end. tt) c.requires.sound

pub returns-in_err-look-in-Activate-clause-reserves : goal.returns-in_err-look-in-Activate-clause-reserves
returns-in_err-look-in-Activate-clause-reserves g c =
    nothing-handed g.S.Staging.obeys g.S.Staging.areas _ c.from_residual-in_err-look-in-Activate.ensures.1 (λ end. tt)
    c.requires.sound

pub returns-in_ok-open-in-ProcessSwPackage-clause-reserves : goal.returns-in_ok-open-in-ProcessSwPackage-clause-reserves
returns-in_ok-open-in-ProcessSwPackage-clause-reserves g c =
    nothing-reserves g.S.Staging.obeys g.S.Staging.areas c.args.ready.now.state _ (λ end. tt) c.requires.sound
    (λ held fit stand. rw c.in-ProcessSwPackage.is (c.in_ok-open-in-ProcessSwPackage.ensures held
    (stand-sound (over (g.S.Staging.areas c.args.staging.now) c.args.ready.now) held _ c.requires.sound stand)))

pub returns-in_ok-look-in-Activate-clause-reserves : goal.returns-in_ok-look-in-Activate-clause-reserves
returns-in_ok-look-in-Activate-clause-reserves g c =
    nothing-reserves g.S.Staging.obeys g.S.Staging.areas c.args.ready.now.state _ (λ end. tt) c.requires.sound
    (λ held fit stand. rw c.in-Activate.is (c.in_ok-look-in-Activate.ensures held
    (stand-sound (over (g.S.Staging.areas c.args.staging.now) c.args.ready.now) held _ c.requires.sound stand)))

pub returns-in_err-stage-in-TransferData-clause-reserves : goal.returns-in_err-stage-in-TransferData-clause-reserves
returns-in_err-stage-in-TransferData-clause-reserves g c =
    let same : c.args.call.now ≡ TransferData c.in-TransferData.id c.in-TransferData.counter c.as_slice.result.now =
    c.in-TransferData.is
    ∙ ap (TransferData c.in-TransferData.id c.in-TransferData.counter) (sym c.as_slice.ensures.bytes) in
    failed-reserves _ _ c.from_residual.ensures.1
    (reserves-at c.ready.view_is same c.args.client (λ held ready. ready)
    c.in_err-stage-in-TransferData.ensures.reserves)

pub returns-in_ok-stage-in-TransferData-clause-reserves : goal.returns-in_ok-stage-in-TransferData-clause-reserves
returns-in_ok-stage-in-TransferData-clause-reserves g c =
    let same : c.args.call.now ≡ TransferData c.in-TransferData.id c.in-TransferData.counter c.as_slice.result.now =
    c.in-TransferData.is
    ∙ ap (TransferData c.in-TransferData.id c.in-TransferData.counter) (sym c.as_slice.ensures.bytes) in
    reserves-at c.ready.view_is same c.args.client
    (λ held ready. subst (λ (k : Readied × Call). IsReady (holding held k.0.state) c.args.client k.1)
    (λ i. (c.ready.view_is i, sym same i)) ready)
    c.in_ok-stage-in-TransferData.ensures.reserves

pub returns-in-TransferExit-clause-reserves : goal.returns-in-TransferExit-clause-reserves
returns-in-TransferExit-clause-reserves g c =
    reserves-at c.ready.view_is c.in-TransferExit.is c.args.client
    (λ held ready. subst (λ (k : Readied × Call). IfOk c.read.result (λ p.
    IsReady (over held (record k.0 { prepared = p })) c.args.client k.1))
    (λ i. (c.ready.view_is i, sym c.in-TransferExit.is i)) ready)
    c.read.ensures.reserves

pub returns-in_default-clause-reserves : goal.returns-in_default-clause-reserves
returns-in_default-clause-reserves g c =
    nothing-reserves g.S.Staging.obeys g.S.Staging.areas c.args.ready.now.state _ (λ end. tt) c.requires.sound
    (λ held fit stand. other-ready (holding held c.args.ready.now.state) c.args.client c.args.call.now
    c.in_default.not-TransferData c.in_default.not-TransferExit c.in_default.not-ProcessSwPackage
    c.in_default.not-Activate)
