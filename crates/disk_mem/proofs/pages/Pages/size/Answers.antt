use Rattle.std.proofs.Common.{◌≡◌, length, sym, subst}
use Rattle.disk_mem.specs.Pages.{Paged}
use Rattle.disk_mem.proofs.Content.{length-shown}
use Rattle.disk_mem.proofs.pages.Pages.size.Goals as goal

pub returns : goal.returns
returns c =
    let p = c.self.inside in
    subst (λ (v : Paged). p.size ≡ length v.bytes) c.self.view_is (sym (length-shown p.size p.table.items))
