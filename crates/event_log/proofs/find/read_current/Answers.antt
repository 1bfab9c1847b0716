use Rattle.std.proofs.Common.{◌≡◌, ◌⊎◌, ◌+◌, ◌<◌, ℕ, List, subst, sym, arith}
use Rattle.checkpoint.specs.Halves.{Body, HasHalf, layout_of}
use Rattle.event_log.proofs.Pairs.{next_below, low_below, low_has, next_has, in_pair, if_some}
use Rattle.disk_core.proofs.Runs.{then_run}
use Rattle.event_log.proofs.find.read_current.Goals as goal

pub read_told-requires-clause-half : goal.read_told-requires-clause-half
read_told-requires-clause-half g c = low_below c.args.half c.layout_of-low.result c.layout_of-low.ensures.layout

pub read_told-requires-clause-inside : goal.read_told-requires-clause-inside
read_told-requires-clause-inside g c =
    low_has c.args.half c.layout_of-low.result c.layout_of-low.ensures.layout _ c.requires.size

pub overflow_add-low : goal.overflow_add-low
overflow_add-low g c = omega (arith, next_below c.args.half c.layout_of-low.result c.layout_of-low.ensures.layout)

pub read_told-requires-2-clause-half : goal.read_told-requires-2-clause-half
read_told-requires-2-clause-half g c = next_below c.args.half c.layout_of-low.result c.layout_of-low.ensures.layout

pub read_told-requires-2-clause-inside : goal.read_told-requires-2-clause-inside
read_told-requires-2-clause-inside g c =
    subst (λ (b : List ℕ). HasHalf (c.layout_of-low.result.low + 1) b) (sym c.read_told.ensures.reads)
    (next_has c.args.half c.layout_of-low.result c.layout_of-low.ensures.layout _ c.requires.size)

pub newest-requires : goal.newest-requires
newest-requires g c = omega (arith, next_below c.args.half c.layout_of-low.result c.layout_of-low.ensures.layout)

pub returns-clause-half : goal.returns-clause-half
returns-clause-half g c =
    if_some (λ (r : ℕ × Body). (r.0 ≡ c.layout_of-low.result.low) ⊎ (r.0 ≡ c.layout_of-low.result.low + 1))
    (λ (r : ℕ × Body). r.0 < 4) c.newest.result
    (λ r place. (in_pair c.args.half c.layout_of-low.result c.layout_of-low.ensures.layout r.0 place).0)
    c.newest.ensures.half

pub returns-clause-pair : goal.returns-clause-pair
returns-clause-pair g c =
    if_some (λ (r : ℕ × Body). (r.0 ≡ c.layout_of-low.result.low) ⊎ (r.0 ≡ c.layout_of-low.result.low + 1))
    (λ (r : ℕ × Body). layout_of r.0 ≡ layout_of c.args.half) c.newest.result
    (λ r place. (in_pair c.args.half c.layout_of-low.result c.layout_of-low.ensures.layout r.0 place).1)
    c.newest.ensures.half

pub returns-clause-any_moment : goal.returns-clause-any_moment
returns-clause-any_moment g c =
    let d = g.D.Disk in
    then_run d.moment d.left_since d.images c.args.disk.now c.read_told.new.disk c.read_told-2.new.disk
    c.read_told.ensures.any_moment c.read_told.ensures.images.none_new c.read_told-2.ensures.any_moment
