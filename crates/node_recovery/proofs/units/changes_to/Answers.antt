use Rattle.std.proofs.Common.{ap, arith, sym, ◌++◌, ◌∙◌}
use Rattle.std.proofs.lemmas.List.{append-nil}
use Rattle.node_recovery.proofs.Changes.{changes-end}
use Rattle.node_recovery.proofs.units.changes_to.Goals as goal

pub returns-clause-changes : goal.returns-clause-changes
returns-clause-changes c =
    let least = c.loop-place-test.false in
    let count = c.min-count.ensures in
    sym (append-nil c.loop-place.changes.items)
    ∙ ap (λ more. c.loop-place.changes.items ++ more)
    (sym (changes-end c.args.id c.args.parts.now c.args.extents.now c.loop-place.place
    (omega (arith, least, count))))
    ∙ c.loop-place.invariant.0
