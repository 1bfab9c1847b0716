use Rattle.std.proofs.Common.{◌≡◌, ◌-◌, ◌++◌, ℕ, List, Option, None, replicate, vec_len, ap, ◌∙◌}
use Rattle.disk_mem.specs.declared.leaf.Leaf.{Leaf}
use Rattle.disk_mem.specs.Pages.{Paged, shown}
use Rattle.disk_mem.proofs.Content.{shown_longer}
use Rattle.disk_mem.proofs.pages.Pages.stock.Goals as goal

-- a longer table shows the same
same : (size n : ℕ) (table longer : List (Option Leaf)) (bytes : List ℕ) → longer ≡ table ++ replicate n None
    → shown size table ≡ bytes → shown size longer ≡ bytes
same size n table longer bytes is was =
    ap (λ (leaves : List (Option Leaf)). shown size leaves) is ∙ shown_longer size table n ∙ was

pub returns-in_err-lengthen-clause-bytes : goal.returns-in_err-lengthen-clause-bytes
returns-in_err-lengthen-clause-bytes c =
    same c.self.inside.size _ c.self.inside.table.items c.lengthen.new.table.items c.args.self.now.bytes
    c.lengthen.ensures.items (ap (λ (v : Paged). v.bytes) c.self.view_is)

pub returns-in_err-stock_pages-clause-bytes : goal.returns-in_err-stock_pages-clause-bytes
returns-in_err-stock_pages-clause-bytes c =
    same c.self.inside.size _ c.self.inside.table.items c.lengthen.new.table.items c.args.self.now.bytes
    c.lengthen.ensures.items (ap (λ (v : Paged). v.bytes) c.self.view_is)

pub returns-clause-bytes : goal.returns-clause-bytes
returns-clause-bytes c =
    same c.self.inside.size _ c.self.inside.table.items c.lengthen.new.table.items c.args.self.now.bytes
    c.lengthen.ensures.items (ap (λ (v : Paged). v.bytes) c.self.view_is)
