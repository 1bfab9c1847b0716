use Rattle.std.proofs.Common.{◌≡◌, [], replicate}
use Rattle.transfer_blocks.proofs.contents.Contents.new.Given as goal

abbrev pub invariant-loop-slot : goal.invariant-loop-slot
invariant-loop-slot l = l.slots.items ≡ replicate l._slot []

abbrev pub invariant-loop-place : goal.invariant-loop-place
invariant-loop-place l = l.sides.items ≡ replicate l._place ([], [])
