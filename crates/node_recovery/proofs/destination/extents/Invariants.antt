use Rattle.std.proofs.Common.{◌≡◌, ◌++◌, drop}
use Rattle.node_core.specs.Places.{extents_of, taken_in}
use Rattle.node_recovery.proofs.destination.extents.Given as goal

abbrev pub invariant-loop-part : goal.invariant-loop-part
invariant-loop-part l =
    l.extents.items ++ extents_of l.state.running l.taken.items (drop l.part-index l.parts)
    ≡ extents_of l.state.running (taken_in l.state) l.parts
