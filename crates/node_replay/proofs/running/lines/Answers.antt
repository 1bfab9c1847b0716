use Rattle.std.proofs.Common.{◌≡◌, ◌<◌, length, refl, sym, subst, ap, ◌∙◌, arith, take, Bool, [], string_bytes}
use Rattle.std.proofs.lemmas.List.{take_all}
use Rattle.std.proofs.lemmas.List.{length-take}
use Rattle.ucm_base.specs.Limits.{entry_limit}
use Rattle.node_replay.specs.Done.{IsReplayed, node_behind}
use Rattle.node_replay.proofs.Doing.{SoFar, begins, ends, event_makes, goes_on}
use Rattle.node_replay.proofs.running.lines.Goals as goal

pub events-init : goal.events-init
events-init g c =
    let node = c.args.node.now in
    let D = g.D.Disk in
    record {
      so_far = λ before less.
          subst
          (λ b. SoFar c.args.script.now c.args.attached.now before []
          (string_bytes c.new-text.result) (D.fault_count node.extents.disk) b node.log node.ready
          (D.seen node.extents.disk) (D.images node.extents.disk))
          (sym c.requires.open)
          (subst
          (λ t. SoFar c.args.script.now c.args.attached.now before [] t
          (D.fault_count node.extents.disk) Bool.false node.log node.ready (D.seen node.extents.disk)
          (D.images node.extents.disk))
          (sym c.new-text.ensures.bytes)
          (begins c.args.script.now c.args.attached.now before (D.fault_count node.extents.disk) node.log node.ready
          (D.seen node.extents.disk) (D.images node.extents.disk) less c.requires.known c.requires.begun));
      faults = omega arith;
      plan = refl;
    }

pub events-preserved : goal.events-preserved
events-preserved g c =
    let D = g.D.Disk in
    let node = c.events.node in
    let new = c.give_line.new.node in
    let i = c.events.invariant in
    let script = c.args.script.now in
    let attached = c.args.attached.now in
    let made = event_makes script attached c.events_make_one_entry.ensures.call c.events_make_one_entry.ensures.unit in
    let all = c.as_slice-event-items.ensures in
    let line = c.event-item.result in
    let less = c.give_line.ensures.faults in
    record {
      so_far = λ before first.
          goes_on script attached before script.events c.events.event-index line
          (string_bytes c.events.text) (string_bytes c.add_line.new.text) (D.fault_count node.extents.disk)
          (D.fault_count new.extents.disk) c.in_ok-given.given node.is_closed node.log node.ready
          (D.seen node.extents.disk) (D.images node.extents.disk) new.is_closed new.log new.ready
          (D.seen new.extents.disk) (D.images new.extents.disk) (λ k. made k line.event)
          (rw (← all) c.event-item.is) (rw (← all) c.events-test.true) (i.so_far before first) less
          c.in_ok-given.ensures.rises c.in_ok-given.ensures.stands c.in_ok-add_line.ensures;
      faults = omega (arith, i.faults, less);
      plan = c.give_line.ensures.plan ∙ i.plan;
    }

pub returns-clause-replayed : goal.returns-clause-replayed
returns-clause-replayed g c = λ before less.
    let D = g.D.Disk in
    let node = c.events.node in
    let script = c.args.script.now in
    subst
    (λ ls. IsReplayed script c.args.attached.now ls (string_bytes c.events.text) before
    (D.fault_count node.extents.disk) (D.images node.extents.disk))
    (take_all c.events.event-index script.events (rw (← c.as_slice-event-items.ensures) c.events-test.false))
    (ends script c.args.attached.now before (take c.events.event-index script.events) (string_bytes c.events.text)
    (D.fault_count node.extents.disk) node.is_closed node.log node.ready (D.seen node.extents.disk) (D.images node.extents.disk)
    (c.what_is_open_serves.ensures node.log node.ready node.extents.disk) (c.events.invariant.so_far before less))

pub give_line-requires : goal.give_line-requires
give_line-requires g c =
    let script = c.args.script.now in
    let attached = c.args.attached.now in
    let so = c.events.invariant.so_far (g.D.Disk.fault_count c.args.node.now.extents.disk) (omega arith) in
    let few : (node_behind script attached so.also).entries < entry_limit =
    omega (
      arith,
      so.also_count,
      length-take c.events.event-index script.events,
      c.events-test.true,
      ap length c.as_slice-event-items.ensures,
      c.as_slice-event-items.type_inv.0,
      c.as_slice-event-items.type_inv.1,
    ) in
    record { stands = (node_behind script attached so.done, node_behind script attached so.also, few, so.stands) }
