use Rattle.std.proofs.Common.{Some, sym, ◌∙◌, subst}
use Rattle.disk_core.proofs.Moments.{weaker}
use Rattle.checkpoint.specs.Halves.{layout_of}
use Rattle.checkpoint.specs.declared.layout.Layout.{Layout}
use Rattle.event_log.specs.Doubts.{Either, of_event}
use Rattle.event_log.specs.Holds.{Holds}
use Rattle.pm_types.specs.Stored.{State}
use Rattle.event_codec.specs.DecidingStates.{state_told}
use Rattle.node_core.specs.Core.{IsSound, over}
use Rattle.node_recovery.specs.Images.{after_bytes}
use Rattle.node_store.proofs.Recorded.{beside_same, both}
use Rattle.node_store.proofs.node.Node.record.Goals as goal

pub returns-clause-areas : goal.returns-clause-areas
returns-clause-areas g c =
    let d = g.D.Disk in
    let k = c.requires.known in
    let beside = c.append.ensures.elsewhere in
    (beside_same (layout_of c.args.self.now.log.half) (d.seen c.args.self.now.extents.disk) (d.seen c.append.new.disk)
    k.pair (beside.each (d.seen c.append.new.disk)
    (g.met.D.Disk.counts_now c.append.new.disk (d.moment c.args.self.now.extents.disk) (d.seen c.append.new.disk)
    beside.later (g.met.D.Disk.reads_as_image c.append.new.disk))) k.extents).1

pub returns-clause-memory : goal.returns-clause-memory
returns-clause-memory g c memory =
    let d = g.D.Disk in
    let k = c.requires.known in
    let beside = c.append.ensures.elsewhere in
    let same = beside_same (layout_of c.args.self.now.log.half) (d.seen c.args.self.now.extents.disk)
    (d.seen c.append.new.disk) k.pair (beside.each (d.seen c.append.new.disk)
    (g.met.D.Disk.counts_now c.append.new.disk (d.moment c.args.self.now.extents.disk) (d.seen c.append.new.disk)
    beside.later (g.met.D.Disk.reads_as_image c.append.new.disk))) k.extents in
    let kept = c.append.ensures.memory memory in record {
      pair = c.append.ensures.pair ∙ k.pair;
      extents = same.0;
      sound = subst (λ held. IsSound (over held c.args.self.now.ready)) (sym same.1) k.sound;
      holds = λ image now. subst (λ (s : State). Holds state_told after_bytes c.append.new.self (Some s) image)
          (c.of-present.ensures ∙ c.state.ensures) (kept.0 image now);
      durable = kept.1;
    }

pub returns-clause-any_moment : goal.returns-clause-any_moment
returns-clause-any_moment g c =
    let d = g.D.Disk in
    let k = c.requires.known in
    let present = c.of-present.ensures ∙ c.state.ensures in
    weaker d.moment d.left_since c.args.self.now.extents.disk c.append.new.disk _ _
    (λ image p.
    let same = beside_same (layout_of c.args.self.now.log.half) (d.seen c.args.self.now.extents.disk) image k.pair p.1
    k.extents in (
      subst (λ (q : Layout × State). Either state_told after_bytes q.0 (of_event after_bytes q.1 c.args.text.now) image)
          (λ i. (k.pair i, present i)) p.0,
      same.0,
      same.1,
    ))
    (both d.moment d.left_since c.args.self.now.extents.disk c.append.new.disk _ _ c.append.ensures.any_moment
    c.append.ensures.elsewhere)
