use Rattle.std.proofs.Common.{◌≡◌, ◌+◌, ℕ, List, sym, ap, subst, refl, arith}
use Rattle.std.specs.List.{slice_range}
use Rattle.disk_area.specs.declared.area.Area.{Area as Window}
use Rattle.disk_area.specs.Windows.{window}
use Rattle.slot_store.specs.Extents.{node_places}
use Rattle.slot_store.specs.Laws.{content_held, held_fits, same_long}
use Rattle.slot_store.proofs.extents.ExtentsStaging.get.Goals as goal

pub read-requires-clause-range : goal.read-requires-clause-range
read-requires-clause-range g c =
    let seen = g.D.Disk.seen c.args.self.now.disk in
    omega (
      arith,
      c.requires.range,
      (held_fits node_places refl seen).contents c.args.area c.requires.area,
      ap (λ (w : Window). w.len) c.extent.ensures,
      same_long node_places c.args.area,
    )

pub returns-in-Ok-clause-bytes : goal.returns-in-Ok-clause-bytes
returns-in-Ok-clause-bytes g c =
    let seen = g.D.Disk.seen c.args.self.now.disk in
    subst (λ (content : List ℕ). c.in-Ok.bytes.items ≡ slice_range content c.args.at (c.args.at + c.args.len))
    (sym (content_held node_places c.args.area seen c.requires.area))
    (subst (λ (w : Window). c.in-Ok.bytes.items ≡ slice_range (window w seen) c.args.at (c.args.at + c.args.len))
    c.extent.ensures c.in-Ok.ensures.bytes)
