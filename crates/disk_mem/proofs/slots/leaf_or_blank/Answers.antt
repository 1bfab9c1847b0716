use Rattle.std.proofs.Common.{Option, ◌∙◌, sym, ap, arith}
use Rattle.disk_mem.specs.declared.leaf.Leaf.{Leaf}
use Rattle.disk_mem.specs.Pages.{leaf_bytes}
use Rattle.disk_mem.proofs.Content.{blank_leaf}
use Rattle.disk_mem.proofs.slots.leaf_or_blank.Goals as goal

pub returns-in-Some-pop-clause-bytes : goal.returns-in-Some-pop-clause-bytes
returns-in-Some-pop-clause-bytes c =
    blank_leaf 512 c.into_leaf.result.pages.items c.into_leaf.ensures (omega arith)
    ∙ ap (λ (leaf : Option Leaf). leaf_bytes leaf) (sym c.in-None.is)
