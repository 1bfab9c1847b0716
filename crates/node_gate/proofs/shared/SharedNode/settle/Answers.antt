use Rattle.std.proofs.Common.{rules, ◌≡◌, ◌∙◌, true, ◌++◌, refl, sym, ap, subst, None}
use Rattle.event_log.specs.declared.revive.Revived.{Revived}
use Rattle.node_core.specs.Core.{Readied}
use Rattle.node_store.specs.Serving.{ended_in, node_on}
use Rattle.node_gate.specs.Stands.{node_after, pending_list, with_pending}
use Rattle.node_gate.proofs.Stands.{counts, lost, run_of, same_stands, stays_shut, stood}
use Rattle.node_gate.proofs.shared.SharedNode.settle.Goals as goal

pub returns-in_err-revive-clause-stands : goal.returns-in_err-revive-clause-stands
returns-in_err-revive-clause-stands g c o stands =
    let d = g.D.Disk in
    let old = c.args.self.now in
    let mid = c.make_room.new.self in
    let new = c.revive.new.self in
    let room = c.make_room.ensures in
    let closed : mid.node.is_closed ≡ true = search rules in
    let on = same_stands d o old.fails.items old.node old.entries.items old.pending mid
    (ap (λ v. v.items) room.fails) room.node room.entries room.pending stands in
    stays_shut d.moment d.left_since d.seen d.images mid.fails.items o mid.node new mid.entries.items mid.pending on
    (ap (λ (r : Readied). r.state) c.in_err-revive.ensures.kept) (c.in_err-revive.ensures.closed ∙ closed)
    c.revive.ensures.images c.revive.ensures.any_moment

pub returns-in-Stood-clause-stands : goal.returns-in-Stood-clause-stands
returns-in-Stood-clause-stands g c o stands =
    let d = g.D.Disk in
    let old = c.args.self.now in
    let mid = c.make_room.new.self in
    let new = c.revive.new.self in
    let end = c.list_pending.new.self in
    let room = c.make_room.ensures in
    let listed = c.list_pending.ensures in
    let it = c.in_ok-revive.ensures in
    let on = same_stands d o old.fails.items old.node old.entries.items old.pending mid
    (ap (λ v. v.items) room.fails) room.node room.entries room.pending stands in
    let n = node_after d.seen o mid.entries.items in
    let w = with_pending n mid.pending in
    let node = subst (λ (r : Revived). node_on new.ready.state (d.seen new.extents.disk) ≡ ended_in r n w)
    c.in-Stood.is
    (it.ended n w on.images_serve (sym on.count) (counts n mid.pending)) in
    same_stands d o mid.fails.items new (mid.entries.items ++ pending_list mid.pending) None end
    (ap (λ v. v.items) listed.fails) listed.node listed.entries listed.pending
    (stood d.moment d.left_since d.seen d.images mid.fails.items o mid.node new mid.entries.items mid.pending on
    it.open
    it.known node
    (run_of d.moment d.left_since d.seen d.images mid.fails.items o mid.node new mid.entries.items mid.pending on
    c.revive.ensures.any_moment))

pub returns-in-Lost-clause-stands : goal.returns-in-Lost-clause-stands
returns-in-Lost-clause-stands g c o stands =
    let d = g.D.Disk in
    let old = c.args.self.now in
    let mid = c.make_room.new.self in
    let new = c.revive.new.self in
    let room = c.make_room.ensures in
    let it = c.in_ok-revive.ensures in
    let on = same_stands d o old.fails.items old.node old.entries.items old.pending mid
    (ap (λ v. v.items) room.fails) room.node room.entries room.pending stands in
    let n = node_after d.seen o mid.entries.items in
    let w = with_pending n mid.pending in
    let node = subst (λ (r : Revived). node_on new.ready.state (d.seen new.extents.disk) ≡ ended_in r n w)
    c.in-Lost.is
    (it.ended n w on.images_serve (sym on.count) (counts n mid.pending)) in
    lost d.moment d.left_since d.seen d.images mid.fails.items o mid.node new mid.entries.items mid.pending on
    it.open
    it.known node
    (run_of d.moment d.left_since d.seen d.images mid.fails.items o mid.node new mid.entries.items mid.pending on
    c.revive.ensures.any_moment)
