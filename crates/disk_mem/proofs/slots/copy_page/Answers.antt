use Rattle.std.proofs.Common.{◌++◌, ℕ, List, Option, sym, ap, ◌∙◌}
use Rattle.std.specs.List.{slice_range}
use Rattle.std.proofs.lemmas.Result.{on_ok_weaker}
use Rattle.disk_mem.specs.declared.page.Page.{Page}
use Rattle.disk_mem.specs.Pages.{page_bytes}
use Rattle.disk_mem.proofs.Content.{zero_range}
use Rattle.disk_mem.proofs.slots.copy_page.Goals as goal

pub returns-in-None-clause-bytes : goal.returns-in-None-clause-bytes
returns-in-None-clause-bytes c = on_ok_weaker c.add_zeros.result
    (λ added.
    added ∙ ap (λ (xs : List ℕ). c.args.out.now.items ++ xs)
    (zero_range 4096 c.args.from c.args.to c.requires.order c.requires.within)
    ∙ ap (λ (page : Option Page). c.args.out.now.items ++ slice_range (page_bytes page) c.args.from c.args.to)
    (sym c.in-None.is))
    c.add_zeros.ensures.bytes
