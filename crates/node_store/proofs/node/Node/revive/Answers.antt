use Rattle.pm_types.specs.Stored.{State}
use Rattle.std.proofs.Common.{◌∙◌, ap, ◌≡◌, ℕ, ◌<◌, ◌≤◌, subst, sym, arith}
use Rattle.node_store.proofs.Reopened.{which-of}
use Rattle.node_store.proofs.node.Node.revive.Goals as goal

pub returns-then-has_grown-clause-ended : goal.returns-then-has_grown-clause-ended
returns-then-has_grown-clause-ended g c n m either count change =
    let new = c.reopen.new.self in
    let image = g.D.Disk.seen new.extents.disk in
    let e = c.in_ok-reopen.ensures in
    let tells = which-of n m new.ready.state image e.found
    (λ k serves. c.what_serves_can_be_opened.ensures.node k image new.ready.state serves e.found)
    (either image e.one) change in
    let was = ap (λ (s : State). s.entries) (c.behind-self.view_is ∙ c.state.ensures) in
    let now = ap (λ (s : State). s.entries) (c.behind-self-2.view_is ∙ c.state-2.ensures) in
    let more = c.if-has_grown.true in
    tells.0 (omega (arith, count, was, now, more))

pub returns-else-has_grown-clause-ended : goal.returns-else-has_grown-clause-ended
returns-else-has_grown-clause-ended g c n m either count change =
    let new = c.reopen.new.self in
    let image = g.D.Disk.seen new.extents.disk in
    let e = c.in_ok-reopen.ensures in
    let tells = which-of n m new.ready.state image e.found
    (λ k serves. c.what_serves_can_be_opened.ensures.node k image new.ready.state serves e.found)
    (either image e.one) change in
    let was = ap (λ (s : State). s.entries) (c.behind-self.view_is ∙ c.state.ensures) in
    let now = ap (λ (s : State). s.entries) (c.behind-self-2.view_is ∙ c.state-2.ensures) in
    let less = c.if-has_grown.false in
    tells.1 (omega (arith, count, was, now, less))
