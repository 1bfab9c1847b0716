use Rattle.std.proofs.Common.{ℕ, List, [], ◌∷◌, subst}
use Rattle.std.proofs.lemmas.Result.{on_ok_weaker}
use Rattle.disk_core.specs.Bytes.{Puts, Torn}
use Rattle.disk_core.specs.Images.{From}
use Rattle.disk_core.proofs.Moments.{weaker}
use Rattle.disk_area.specs.declared.area.Area.{Area}
use Rattle.disk_area.specs.Windows.{InArea}
use Rattle.checkpoint.specs.Counting.{MayOpen}
use Rattle.checkpoint.proofs.Switches.{may_open, opens}
use Rattle.checkpoint.proofs.open.open_reserved.Goals as goal

pub returns-clause-any_moment : goal.returns-clause-any_moment
returns-clause-any_moment g c =
    let d = g.D.Disk in
    let old = c.args.disk.now in
    let s = d.seen old in
    weaker d.moment d.left_since old c.write_synced.new.disk
    (From (d.images old) (InArea c.head_area.result (Torn 0 1))) (MayOpen c.args.half s)
    (λ x from. may_open c.args.half s x c.requires.half c.requires.inside c.requires.prepared
    (subst (λ (b : List ℕ). InArea _ (Torn 0 1) b x) (c.requires.nothing_pending from.0 from.1)
    (subst (λ (a : Area). InArea a (Torn 0 1) from.0 x) c.head_area.ensures.area from.2)))
    c.write_synced.ensures.any_moment

pub returns-clause-opened : goal.returns-clause-opened
returns-clause-opened g c = on_ok_weaker c.write_synced.result
    (λ written x now. opens c.args.half (g.D.Disk.seen c.args.disk.now) x c.requires.half c.requires.inside
    c.requires.prepared
    (subst (λ (a : Area). InArea a (Puts 0 (1 ∷ [])) (g.D.Disk.seen c.args.disk.now) x) c.head_area.ensures.area
    (written x now)))
    c.write_synced.ensures.written
