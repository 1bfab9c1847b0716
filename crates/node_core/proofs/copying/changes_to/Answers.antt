use Rattle.node_core.proofs.Names.{ap, append-nil, arith, sym, ◌++◌, ◌∙◌}
use Rattle.node_core.proofs.Placing.{changes-end}
use Rattle.node_core.proofs.copying.changes_to.Goals as goal

pub returns : goal.returns
returns c =
    let least = c.loop-place-test.false in
    let count = c.min-count.ensures in
    sym (append-nil c.loop-place.changes.items)
    ∙ ap (λ more. c.loop-place.changes.items ++ more)
    (sym (changes-end c.args.id c.args.parts.now c.args.extents.now c.loop-place.place
    (omega (arith, least, count))))
    ∙ c.loop-place.invariant
