use Rattle.std.proofs.Common.{◌≡◌, ℕ, List, Some, IfSome, Err, ap, subst, sym, ◌∙◌, arith}
use Rattle.checkpoint.specs.Halves.{layout_of}
use Rattle.slot_store.specs.Extents.{HasExtents, held_in, node_places}
use Rattle.node_core.specs.Core.{IsSound, holding}
use Rattle.node_recovery.specs.Images.{stored_in}
use Rattle.pm_types.specs.Stored.{State}
use Rattle.node_store.specs.Open.{CanServe, IsOpen}
use Rattle.node_store.proofs.Reopened.{is-formatted}
use Rattle.node_store.proofs.node.Node.reopen.Goals as goal

pub recover-requires-clause-size : goal.recover-requires-clause-size
unfolding layout_of
recover-requires-clause-size g c =
    let image = g.D.Disk.seen c.restart.new.self in
    let some = c.requires.serves image c.in_ok-restart.ensures.one in
    let extents = (c.what_serves_can_be_opened.ensures.can some.0 image some.1).extents in
    omega (arith, extents)

pub recover-requires-clause-can : goal.recover-requires-clause-can
recover-requires-clause-can g c =
    let image = g.D.Disk.seen c.restart.new.self in
    let some = c.requires.serves image c.in_ok-restart.ensures.one in
    (c.what_serves_can_be_opened.ensures.can some.0 image some.1).recovers

pub unreachable-requires : goal.unreachable-requires
unfolding layout_of
unreachable-requires g c =
    let image = g.D.Disk.seen c.restart.new.self in
    let some = c.requires.serves image c.in_ok-restart.ensures.one in
    is-formatted some.0 image some.1
    (c.recover.ensures.unformatted (c.in-Err-Unformatted.is ∙ ap Err c.in-Err-Unformatted.field-0-is))

-- the state that is found is sound over its areas
found-sound : (image : List ℕ) (s : State) → stored_in image ≡ Some s
    → IfSome (stored_in image) (λ s. IsSound (holding (held_in node_places image) s))
    → IsSound (holding (held_in node_places image) s)
found-sound image s is sound = subst (λ o. IfSome o (λ s. IsSound (holding (held_in node_places image) s))) is sound

pub returns-in-Ok-clause-known : goal.returns-in-Ok-clause-known
unfolding layout_of
returns-in-Ok-clause-known g c =
    let image = g.D.Disk.seen c.restart.new.self in
    let some = c.requires.serves image c.in_ok-restart.ensures.one in
    let can = c.what_serves_can_be_opened.ensures.can some.0 image some.1 in
    let found = c.in-Ok.ensures in
    let sound = found-sound image c.in-Ok.found.state found.found can.sound in
    rw (c.of.ensures) (record {
      pair = found.pair;
      extents = subst (HasExtents node_places) (sym found.reads) can.extents;
      sound = subst (λ x. IsSound (holding (held_in node_places x) c.in-Ok.found.state)) (sym found.reads) sound;
      holds = found.holds;
      durable = found.durable;
    })
