use Rattle.std.proofs.Common.{◌≡◌, ℕ, ◌+◌, ◌*◌, ◌≤◌, List, Some, None, Err, refl, sym, ap, subst, ◌∙◌, arith}
use Rattle.fault_count.specs.Faults.{HasRisen}
use Rattle.disk_core.specs.Images.{EachImage}
use Rattle.disk_core.specs.Moments.{LeavesOnly}
use Rattle.disk_core.proofs.Moments.{joined}
use Rattle.checkpoint.specs.Halves.{half_of, layout_2, layout_of, other}
use Rattle.checkpoint.specs.declared.fault.StoreError.TheVariants.{Failed}
use Rattle.event_log.specs.Holds.{Holds}
use Rattle.event_log.specs.declared.log.Log.{Log}
use Rattle.event_codec.specs.DecidingStates.{state_told}
use Rattle.node_recovery.specs.Images.{after_bytes}
use Rattle.ucm_base.specs.Limits.{cluster_limit}
use Rattle.pm_types.specs.Histories.{formatted}
use Rattle.pm_types.specs.Stored.{Areas, meaning}
use Rattle.slot_store.specs.Extents.{HasExtents, held_in, node_places}
use Rattle.node_core.specs.Core.{IsSound, holding}
use Rattle.node_core.specs.Format.{in_order}
use Rattle.node_core.specs.Packages.{package_reading}
use Rattle.node_store.specs.Open.{IsBlank, IsOpen}
use Rattle.node_store.specs.Serving.{Serves, node_on}
use Rattle.node_store.proofs.Entered.{open_serves}
use Rattle.node_store.proofs.Recorded.{SameAreas, beside_same}
use Rattle.node_store.proofs.node.Node.format.Goals as goal

pub format-requires-clause-size : goal.format-requires-clause-size
unfolding layout_of
format-requires-clause-size g c = let extents = c.in-Ok.ensures.extents in omega (arith, extents)

pub format-requires-clause-other : goal.format-requires-clause-other
unfolding other layout_of
format-requires-clause-other g c = c.in-Ok.ensures.blank

pub format-requires-clause-long : goal.format-requires-clause-long
unfolding layout_of
format-requires-clause-long g c = omega arith

pub returns-in-Ok-format-clause-known : goal.returns-in-Ok-format-clause-known
unfolding layout_of
returns-in-Ok-format-clause-known g c =
    let d = g.D.Disk in
    let m = g.met.D.Disk in
    let f = c.in-Ok-format.ensures in
    let old = c.install.new.extents.disk in
    let new = c.format.new.disk in
    let same : SameAreas (d.seen old) (d.seen new) =
    beside_same layout_2 (d.seen old) (d.seen new) refl (f.beside (d.seen new) (m.reads_as_image new))
    c.in-Ok.ensures.extents in
    rw (c.of-in-Ok-format.ensures) (record {
      pair = ap (λ (l : Log). layout_of l.half) f.log;
      extents = same.0;
      sound = subst (λ (areas : Areas). IsSound (holding areas c.in-Ok.state)) (sym same.1) c.in-Ok.ensures.sound;
      holds = subst (λ s. EachImage (d.images new) (Holds state_told after_bytes c.in-Ok-format.log (Some s)))
          c.of.ensures f.holds;
      durable = f.durable;
    })

pub returns-in-Ok-format-clause-node : goal.returns-in-Ok-format-clause-node
unfolding layout_of
returns-in-Ok-format-clause-node g c =
    let d = g.D.Disk in
    let m = g.met.D.Disk in
    let old = c.install.new.extents.disk in
    let new = c.format.new.disk in
    let same : SameAreas (d.seen old) (d.seen new) =
    beside_same layout_2 (d.seen old) (d.seen new) refl
    (c.in-Ok-format.ensures.beside (d.seen new) (m.reads_as_image new)) c.in-Ok.ensures.extents in
    rw (c.of-in-Ok-format.ensures)
    (ap (λ (areas : Areas). meaning package_reading areas c.in-Ok.state) same.1 ∙ c.in-Ok.ensures.node)

pub returns-in-Ok-format-clause-serves : goal.returns-in-Ok-format-clause-serves
returns-in-Ok-format-clause-serves g c x now =
    let d = g.D.Disk in
    let new = c.format.new.disk in
    subst (λ n. Serves n x) (returns-in-Ok-format-clause-node g c)
    (open_serves c.in-Ok-format.log c.of-in-Ok-format.result (d.seen new) (d.images new)
    (returns-in-Ok-format-clause-known g c) x now)

pub returns-in-Ok-format-clause-any_moment : goal.returns-in-Ok-format-clause-any_moment
unfolding other layout_of
returns-in-Ok-format-clause-any_moment g c =
    let d = g.D.Disk in
    joined d.moment d.left_since c.args.disk c.install.new.extents.disk c.format.new.disk IsBlank IsBlank
    (subst (λ x. LeavesOnly d.moment d.left_since x c.install.new.extents.disk IsBlank) c.of-extents.ensures.disk
    c.install.ensures.any_moment) c.format.ensures.any_moment (λ x h. h)

pub returns-in-Err-format-clause-again : goal.returns-in-Err-format-clause-again
unfolding other layout_of
returns-in-Err-format-clause-again g c =
    let d = g.D.Disk in
    let m = g.met.D.Disk in
    let new = c.format.new.disk in
    let served = c.format.ensures.served in
    let run = joined d.moment d.left_since c.args.disk c.install.new.extents.disk new IsBlank IsBlank
    (subst (λ x. LeavesOnly d.moment d.left_since x c.install.new.extents.disk IsBlank) c.of-extents.ensures.disk
    c.install.ensures.any_moment) c.format.ensures.any_moment (λ x h. h) in
    let was : d.fault_count c.args.disk ≤ d.fault_count c.install.new.extents.disk =
    subst (λ x. d.fault_count x ≤ d.fault_count c.install.new.extents.disk) c.of-extents.ensures.disk
    c.install.ensures.faults in
    let more = served.no_fewer in
    rw (c.into_disk-in-Err-format.ensures) (
      subst (λ n. node_places.sides + 2 * cluster_limit * node_places.len ≤ n) (sym served.same_size)
          c.in-Ok.ensures.extents,
      c.in-Err-format.ensures.other,
      run,
      served.same_plan ∙ subst (λ x. d.armed c.install.new.extents.disk ≡ d.armed x) c.of-extents.ensures.disk
          c.install.ensures.plan,
      omega (arith, was, more),
      (λ failed. risen (d.fault_count c.args.disk) (d.fault_count c.install.new.extents.disk) (d.fault_count new) was
          (served.cause (c.in-Err-format.is ∙ ap Err failed))),
    )
  where
    risen : (a b n : ℕ) → a ≤ b → HasRisen b n → HasRisen a n
    risen a b n low high = grind (arith, low, high)
