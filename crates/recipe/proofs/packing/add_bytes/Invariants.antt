use Rattle.std.proofs.Common.{◌≡◌, ◌++◌, take}
use Rattle.std.specs.List.{flat_map}
use Rattle.recipe.proofs.packing.add_bytes.Given as goal

abbrev pub invariant-made : goal.invariant-made
invariant-made l = l.bytes.items ≡ l.initial.bytes.items ++ flat_map (λ a. a.bytes) (take l.attachment-index l.made)
