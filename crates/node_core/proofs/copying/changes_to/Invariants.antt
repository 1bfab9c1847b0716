use Rattle.node_core.proofs.Names.{changes_to, drop, ◌++◌, ◌≡◌}
use Rattle.node_core.proofs.copying.changes_to.Given as goal

abbrev pub invariant-loop-place : goal.invariant-loop-place
invariant-loop-place l = l.changes.items ++ changes_to l.id (drop l.place l.parts) (drop l.place l.extents)
    ≡ changes_to l.id l.parts l.extents
