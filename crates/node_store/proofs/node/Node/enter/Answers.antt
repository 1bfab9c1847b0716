use Rattle.std.proofs.Common.{inl, ◌∙◌, ap, subst}
use Rattle.disk_core.proofs.Moments.{started, weaker}
use Rattle.pm_types.specs.Stored.{meaning}
use Rattle.node_core.specs.Core.{AllReserved, IsExecuted, Readied, over, state_after}
use Rattle.node_core.specs.Packages.{package_reading}
use Rattle.slot_store.specs.Extents.{held_in, node_places}
use Rattle.node_recovery.specs.Images.{after_bytes}
use Rattle.node_store.proofs.Entered.{is_low, makes, open_serves, opened, serves}
use Rattle.node_store.proofs.node.Node.enter.Goals as goal

pub returns-in_err-text-clause-any_moment : goal.returns-in_err-text-clause-any_moment
returns-in_err-text-clause-any_moment g c =
    let d = g.D.Disk in let self = c.args.self.now in
    started d.moment d.left_since self.extents.disk _ (λ image left. inl (open_serves self.log self.ready
    (d.seen self.extents.disk) (d.images self.extents.disk) c.requires.known image
    (g.met.D.Disk.only_now self.extents.disk image left)))

pub returns-in_err-record-clause-any_moment : goal.returns-in_err-record-clause-any_moment
returns-in_err-record-clause-any_moment g c =
    let d = g.D.Disk in let self = c.args.self.now in
    let areas = held_in node_places (d.seen self.extents.disk) in
    let call = c.args.call.now in
    let fits = c.in_ok-text.ensures.fits in
    let low = is_low self.ready c.args.client c.args.no call c.args.reply.now fits in
    let k = c.requires.known in
    let text = ap (after_bytes self.ready.state) (c.deref.ensures.value ∙ c.in_ok-text.ensures.text)
    ∙ makes self.ready areas c.args.client c.args.no call c.args.reply.now low c.requires.entries k.sound
    c.requires.reserved c.requires.due fits in
    weaker d.moment d.left_since self.extents.disk c.record.new.self.extents.disk _ _
    (λ image p. serves self.ready areas c.args.client c.args.no call c.args.reply.now low c.requires.entries k.sound
    c.requires.reserved c.requires.due c.deref.result.now text image p.0 p.1 p.2) c.record.ensures.any_moment

pub returns-clause-any_moment : goal.returns-clause-any_moment
returns-clause-any_moment g c =
    let d = g.D.Disk in let self = c.args.self.now in
    let areas = held_in node_places (d.seen self.extents.disk) in
    let call = c.args.call.now in
    let fits = c.in_ok-text.ensures.fits in
    let low = is_low self.ready c.args.client c.args.no call c.args.reply.now fits in
    let k = c.requires.known in
    let text = ap (after_bytes self.ready.state) (c.deref.ensures.value ∙ c.in_ok-text.ensures.text)
    ∙ makes self.ready areas c.args.client c.args.no call c.args.reply.now low c.requires.entries k.sound
    c.requires.reserved c.requires.due fits in
    weaker d.moment d.left_since self.extents.disk c.record.new.self.extents.disk _ _
    (λ image p. serves self.ready areas c.args.client c.args.no call c.args.reply.now low c.requires.entries k.sound
    c.requires.reserved c.requires.due c.deref.result.now text image p.0 p.1 p.2) c.record.ensures.any_moment

pub returns-clause-stepped : goal.returns-clause-stepped
returns-clause-stepped g c =
    let d = g.D.Disk in let self = c.args.self.now in
    let done = subst (λ (r : Readied). AllReserved r c.args.client c.args.no c.args.call.now (λ v.
    IsExecuted v c.args.client c.args.no c.args.call.now c.exec.result (over v.areas c.exec.new.self)))
    c.record.ensures.ready c.exec.ensures.executed (held_in node_places (d.seen self.extents.disk))
    c.requires.known.sound c.requires.reserved in
    λ i. (
      (ap (λ held. meaning package_reading held c.exec.new.self.state) c.record.ensures.areas ∙ done.node) i,
      done.reached i,
    )

pub returns-clause-known : goal.returns-clause-known
returns-clause-known g c =
    let d = g.D.Disk in let self = c.args.self.now in
    let areas = held_in node_places (d.seen self.extents.disk) in
    let call = c.args.call.now in
    let fits = c.in_ok-text.ensures.fits in
    let low = is_low self.ready c.args.client c.args.no call c.args.reply.now fits in
    let k = c.requires.known in
    let text = ap (after_bytes self.ready.state) (c.deref.ensures.value ∙ c.in_ok-text.ensures.text)
    ∙ makes self.ready areas c.args.client c.args.no call c.args.reply.now low c.requires.entries k.sound
    c.requires.reserved c.requires.due fits in
    let done = subst (λ (r : Readied). AllReserved r c.args.client c.args.no call (λ v.
    IsExecuted v c.args.client c.args.no call c.exec.result (over v.areas c.exec.new.self)))
    c.record.ensures.ready c.exec.ensures.executed areas k.sound c.requires.reserved in
    opened self.ready areas c.args.client c.args.no call c.args.reply.now low c.requires.entries k.sound
    c.requires.reserved c.requires.due c.record.new.self.log (d.images c.record.new.self.extents.disk) c.exec.new.self
    c.exec.result (d.seen c.record.new.self.extents.disk) c.deref.result.now c.record.ensures.pair
    c.record.ensures.extents c.record.ensures.areas text done
    (c.exec.ensures.state ∙ ap (λ (r : Readied). state_after r c.args.client c.args.no call c.exec.result)
    c.record.ensures.ready) c.in_ok-record.ensures.recorded c.in_ok-record.ensures.durable
