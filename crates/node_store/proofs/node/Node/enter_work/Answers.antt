use Rattle.std.proofs.Common.{inl, ◌∙◌, ap, subst}
use Rattle.disk_core.proofs.Moments.{started, weaker}
use Rattle.pm_types.specs.Stored.{meaning}
use Rattle.node_core.specs.Core.{Readied, over}
use Rattle.node_core.specs.Packages.{package_reading}
use Rattle.node_core.specs.Units.{AllWorkReady, IsWorked, state_worked}
use Rattle.slot_store.specs.Extents.{held_in, node_places}
use Rattle.node_recovery.specs.Images.{after_bytes}
use Rattle.node_store.proofs.Entered.{open_serves}
use Rattle.node_store.proofs.EnteredWork.{unit_makes, unit_opened, unit_serves}
use Rattle.node_store.proofs.node.Node.enter_work.Goals as goal

pub returns-in_err-text-clause-any_moment : goal.returns-in_err-text-clause-any_moment
returns-in_err-text-clause-any_moment g c =
    let d = g.D.Disk in let self = c.args.self.now in
    started d.moment d.left_since self.extents.disk _ (λ image left. inl (open_serves self.log self.ready
    (d.seen self.extents.disk) (d.images self.extents.disk) c.requires.known image
    (g.met.D.Disk.only_now self.extents.disk image left)))

pub returns-in_err-record-clause-any_moment : goal.returns-in_err-record-clause-any_moment
returns-in_err-record-clause-any_moment g c =
    let d = g.D.Disk in let self = c.args.self.now in
    let areas = held_in node_places (d.seen self.extents.disk) in
    let k = c.requires.known in
    let text = ap (after_bytes self.ready.state) (c.deref.ensures.value ∙ c.in_ok-text.ensures.text)
    ∙ unit_makes self.ready areas c.args.fails.now c.args.passed c.args.after c.requires.entries k.sound
    c.requires.reserved c.requires.due c.in_ok-text.ensures.fits in
    weaker d.moment d.left_since self.extents.disk c.record.new.self.extents.disk _ _
    (λ image p. unit_serves self.ready areas c.args.fails.now c.args.passed c.args.after c.requires.entries k.sound
    c.requires.reserved c.requires.due c.deref.result.now text image p.0 p.1 p.2) c.record.ensures.any_moment

pub returns-clause-any_moment : goal.returns-clause-any_moment
returns-clause-any_moment g c =
    let d = g.D.Disk in let self = c.args.self.now in
    let areas = held_in node_places (d.seen self.extents.disk) in
    let k = c.requires.known in
    let text = ap (after_bytes self.ready.state) (c.deref.ensures.value ∙ c.in_ok-text.ensures.text)
    ∙ unit_makes self.ready areas c.args.fails.now c.args.passed c.args.after c.requires.entries k.sound
    c.requires.reserved c.requires.due c.in_ok-text.ensures.fits in
    weaker d.moment d.left_since self.extents.disk c.record.new.self.extents.disk _ _
    (λ image p. unit_serves self.ready areas c.args.fails.now c.args.passed c.args.after c.requires.entries k.sound
    c.requires.reserved c.requires.due c.deref.result.now text image p.0 p.1 p.2) c.record.ensures.any_moment

pub returns-clause-answer : goal.returns-clause-answer
returns-clause-answer g c =
    let d = g.D.Disk in let self = c.args.self.now in
    let done = subst (λ (r : Readied). AllWorkReady r (λ v.
    IsWorked v c.args.fails.now c.work.result (over v.areas c.work.new.self)))
    c.record.ensures.ready c.work.ensures.worked (held_in node_places (d.seen self.extents.disk))
    c.requires.known.sound c.requires.reserved in done.answer

pub returns-clause-node : goal.returns-clause-node
returns-clause-node g c =
    let d = g.D.Disk in let self = c.args.self.now in
    let done = subst (λ (r : Readied). AllWorkReady r (λ v.
    IsWorked v c.args.fails.now c.work.result (over v.areas c.work.new.self)))
    c.record.ensures.ready c.work.ensures.worked (held_in node_places (d.seen self.extents.disk))
    c.requires.known.sound c.requires.reserved in
    ap (λ held. meaning package_reading held c.work.new.self.state) c.record.ensures.areas ∙ done.node

pub returns-clause-known : goal.returns-clause-known
returns-clause-known g c =
    let d = g.D.Disk in let self = c.args.self.now in
    let areas = held_in node_places (d.seen self.extents.disk) in
    let k = c.requires.known in
    let text = ap (after_bytes self.ready.state) (c.deref.ensures.value ∙ c.in_ok-text.ensures.text)
    ∙ unit_makes self.ready areas c.args.fails.now c.args.passed c.args.after c.requires.entries k.sound
    c.requires.reserved c.requires.due c.in_ok-text.ensures.fits in
    let done = subst (λ (r : Readied). AllWorkReady r (λ v.
    IsWorked v c.args.fails.now c.work.result (over v.areas c.work.new.self)))
    c.record.ensures.ready c.work.ensures.worked areas k.sound c.requires.reserved in
    unit_opened self.ready areas c.args.fails.now c.args.passed c.args.after c.requires.entries k.sound
    c.requires.reserved c.requires.due c.record.new.self.log (d.images c.record.new.self.extents.disk) c.work.new.self
    c.work.result (d.seen c.record.new.self.extents.disk) c.deref.result.now c.record.ensures.pair
    c.record.ensures.extents c.record.ensures.areas text done
    (c.work.ensures.state ∙ ap (λ (r : Readied). state_worked r c.work.result) c.record.ensures.ready)
    c.in_ok-record.ensures.recorded c.in_ok-record.ensures.durable
