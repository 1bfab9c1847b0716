use Rattle.std.proofs.Common.{ℕ, List, length, Ok, Err, sym, ◌∙◌, subst}
use Rattle.disk_core.specs.Bytes.{Puts, Torn}
use Rattle.disk_core.specs.Images.{From}
use Rattle.disk_core.specs.Moments.{LeavesOnly}
use Rattle.disk_area.specs.declared.area.Area.{Area as Window}
use Rattle.disk_area.specs.Windows.{InArea}
use Rattle.slot_store.specs.Extents.{node_places, extent_in}
use Rattle.slot_store.proofs.Apart.{node_sound}
use Rattle.slot_store.proofs.Held.{torn_leaves, put_held}
use Rattle.slot_store.proofs.Puts.{put_moments, put_after}
use Rattle.transfer_blocks.specs.declared.fault.StagingError.TheVariants.{Failed}
use Rattle.slot_store.proofs.extents.ExtentsStaging.put.Goals as goal

pub returns-in-Ok-clause-put : goal.returns-in-Ok-clause-put
returns-in-Ok-clause-put g c =
    let d = g.D.Disk in
    let new = c.write_synced.new.disk in
    put_held node_places node_sound (d.seen c.args.self.now.disk) (d.seen new) c.args.area c.args.at c.args.bytes.now
    c.requires.area
    (subst (λ (x : Window × List ℕ). InArea x.0 (Puts c.args.at c.args.bytes.now) x.1 (d.seen new))
    (λ i. (c.extent.ensures i, c.reserve.ensures.reads i))
    (c.in-Ok.ensures.written (d.seen new) (g.met.D.Disk.reads_as_image new)))

pub returns-in-Ok-clause-obeys : goal.returns-in-Ok-clause-obeys
returns-in-Ok-clause-obeys g c =
    let d = g.D.Disk in
    let old = c.args.self.now.disk in
    let mid = c.reserve.new.self in
    let new = c.write_synced.new.disk in
    let at = c.args.at in
    let bytes = c.args.bytes.now in
    let more =
    subst (λ (w : Window). LeavesOnly d.moment d.left_since mid new (From (d.images mid) (InArea w
    (Torn at (length bytes))))) c.extent.ensures c.in-Ok.ensures.any_moment in
    let torn =
    subst (λ (x : Window × List ℕ). InArea x.0 (Torn at (length bytes)) x.1 (d.seen new))
    (λ i. (c.extent.ensures i, c.reserve.ensures.reads i)) c.in-Ok.ensures.reads in
    record {
      moments = put_moments d.moment d.left_since d.images node_places c.args.area at bytes (Ok tt) old mid new
          (g.met.D.Disk.only_now old) c.reserve.ensures.images c.reserve.ensures.time more;
      after = λ x now. (
        d.seen old,
        g.met.D.Disk.reads_as_image old,
        (
          subst (λ (y : List ℕ). InArea (extent_in node_places c.args.area) (Torn at (length bytes)) (d.seen old) y)
              (sym (c.in-Ok.ensures.durable x now)) torn,
          (subst (λ (y : Window × List ℕ). InArea y.0 (Puts at bytes) y.1 x)
              (λ i. (c.extent.ensures i, c.reserve.ensures.reads i)) (c.in-Ok.ensures.written x now)).inside,
        ),
      );
      settles = c.in-Ok.ensures.durable;
      plan = c.in-Ok.ensures.served.same_plan ∙ c.reserve.ensures.plan;
    }

pub returns-in-Err-clause-outside : goal.returns-in-Err-clause-outside
returns-in-Err-clause-outside g c =
    let d = g.D.Disk in
    let new = c.write_synced.new.disk in
    let n = length c.args.bytes.now in
    torn_leaves node_places node_sound (d.seen c.args.self.now.disk) (d.seen new) c.args.area c.args.at n
    c.requires.area
    (subst (λ (x : Window × List ℕ). InArea x.0 (Torn c.args.at n) x.1 (d.seen new))
    (λ i. (c.extent.ensures i, c.reserve.ensures.reads i)) c.in-Err.ensures.reads)

pub returns-in-Err-clause-obeys : goal.returns-in-Err-clause-obeys
returns-in-Err-clause-obeys g c =
    let d = g.D.Disk in
    let old = c.args.self.now.disk in
    let mid = c.reserve.new.self in
    let new = c.write_synced.new.disk in
    let at = c.args.at in
    let bytes = c.args.bytes.now in
    let more =
    subst (λ (w : Window). LeavesOnly d.moment d.left_since mid new (From (d.images mid) (InArea w
    (Torn at (length bytes))))) c.extent.ensures c.in-Err.ensures.any_moment in
    record {
      moments = put_moments d.moment d.left_since d.images node_places c.args.area at bytes (Err Failed) old mid new
          (g.met.D.Disk.only_now old) c.reserve.ensures.images c.reserve.ensures.time more;
      after = λ x now.
          let from = put_after d.moment d.left_since d.images node_places c.args.area at bytes (Err Failed) old mid new
          (g.met.D.Disk.only_now old) c.reserve.ensures.images c.reserve.ensures.time more
          (λ x now. g.met.D.Disk.counts_now new (d.moment mid) x more.later now) x now in
          (from.0, from.1, (from.2, tt));
      settles = tt;
      plan = c.in-Err.ensures.served.same_plan ∙ c.reserve.ensures.plan;
    }
