use Rattle.node_core.proofs.Names.{AllByRecursion, IsSound, ap, formatted, fresh_state, holding, in_order, length, meaning}
use Rattle.node_core.proofs.Names.{package_limit, package_reading, placed_from, refl, subst, sym, ◌∙◌, ◌≡◌, ◌≤◌}
use Rattle.node_core.specs.Format.{IsFormatted, with_installed}
use Rattle.transfer_blocks.specs.declared.fault.StagingError.TheVariants.{OutOfMemory}
use Rattle.node_core.proofs.Lists.{end-fault}
use Rattle.node_core.proofs.Ordered.{order-each}
use Rattle.node_core.proofs.Formatted.{formatted-node, none-formats}
use Rattle.node_core.proofs.format.format_areas.Goals as goal

pub install-requires-clause-short : goal.install-requires-clause-short
install-requires-clause-short g c =
    subst (AllByRecursion (λ x. length x.content ≤ package_limit)) (sym c.in_ok-ordered.ensures.sorted)
    (order-each (λ x. length x.content ≤ package_limit) c.args.installed.now c.requires.short)

pub returns-clause-places : goal.returns-clause-places
returns-clause-places g c =
    c.in_ok-state.ensures
    ∙ ap fresh_state (c.in_ok-running.ensures.placed ∙ ap (placed_from 0) c.in_ok-ordered.ensures.sorted)

pub returns-clause-holds : goal.returns-clause-holds
returns-clause-holds g c held fit =
    let sorted = c.in_ok-ordered.ensures.sorted in
    subst (λ s. IsFormatted (in_order c.args.installed.now) held s) (sym (returns-clause-places g c))
    (formatted-node held (in_order c.args.installed.now) c.args.installed.now refl
    (ap length (sym sorted) ∙ c.in_ok-ordered.ensures.length) c.requires.few c.requires.short fit)

pub returns-clause-node : goal.returns-clause-node
returns-clause-node g c =
    let areas = c.in_ok-running.ensures.areas ∙ ap (λ l. with_installed l (g.S.Staging.areas c.args.staging.now))
    c.in_ok-ordered.ensures.sorted in
    subst (λ a. meaning package_reading a c.in_ok-state.state ≡ formatted (in_order c.args.installed.now)) (sym areas)
    (returns-clause-holds g c (g.S.Staging.areas c.args.staging.now) (g.met.S.Staging.areas_fit
    c.args.staging.now)).node

pub returns-clause-sound : goal.returns-clause-sound
returns-clause-sound g c =
    let areas = c.in_ok-running.ensures.areas ∙ ap (λ l. with_installed l (g.S.Staging.areas c.args.staging.now))
    c.in_ok-ordered.ensures.sorted in
    let is = (returns-clause-holds g c (g.S.Staging.areas c.args.staging.now)
    (g.met.S.Staging.areas_fit c.args.staging.now)).sound in
    subst (λ a. IsSound (holding a c.in_ok-state.state)) (sym areas)
    (record { fit = is.fit; order = is.order; copied = is.copied })

pub returns-in_err-ordered-clause-formats : goal.returns-in_err-ordered-clause-formats
returns-in_err-ordered-clause-formats g c =
    rw (end-fault OutOfMemory _ c.from_residual.ensures.1) (none-formats _ _ _)
