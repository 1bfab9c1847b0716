use Rattle.std.proofs.Common.{List, Option, ap, ◌∙◌}
use Rattle.disk_mem.specs.declared.leaf.Leaf.{Leaf}
use Rattle.disk_mem.specs.Pages.{shown}
use Rattle.disk_mem.proofs.Content.{shown_unmade}
use Rattle.disk_mem.proofs.pages.Pages.new.Goals as goal

pub returns : goal.returns
returns c =
    ap (λ (leaves : List (Option Leaf)). shown c.args.size leaves) c.new.ensures.items ∙ shown_unmade c.args.size
