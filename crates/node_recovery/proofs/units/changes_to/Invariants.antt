use Rattle.std.proofs.Common.{◌≡◌, ◌++◌, drop, length}
use Rattle.node_core.specs.Units.{changes_to}
use Rattle.node_recovery.proofs.units.changes_to.Given as goal

abbrev pub invariant-loop-place : goal.invariant-loop-place
invariant-loop-place l = (l.changes.items ++ changes_to l.id (drop l.place l.parts) (drop l.place l.extents)
    ≡ changes_to l.id l.parts l.extents) × (length l.changes.items ≡ l.place)
