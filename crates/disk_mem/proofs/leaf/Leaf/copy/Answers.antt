use Rattle.std.proofs.Common.{◌≡◌, ◌+◌, ◌*◌, ◌<◌, ◌++◌, ℕ, List, length, ap, ◌∙◌, arith}
use Rattle.std.proofs.lemmas.Result.{on_ok_weaker}
use Rattle.disk_mem.specs.Pages.{page_bytes, content}
use Rattle.disk_mem.proofs.Content.{place, place_page, cell_range, length-page_bytes}
use Rattle.disk_mem.proofs.leaf.Leaf.copy.Goals as goal

pub returns-clause-bytes : goal.returns-clause-bytes
returns-clause-bytes c = on_ok_weaker c.copy_page.result
    (λ added.
    let leaf = c.args.self.now in
    let i : ℕ = c.args.index in
    let within : i < length leaf.pages.items = omega (arith, c.requires.inside, leaf.full, leaf.pages.ok.0) in
    let from : 4096 * i + c.args.from ≡ place 4096 i + c.args.from = omega (arith, place_page i) in
    let to : 4096 * i + c.args.to ≡ place 4096 i + c.args.to = omega (arith, place_page i) in
    added ∙ ap (λ (xs : List ℕ). c.args.out.now.items ++ xs)
    (cell_range page_bytes 4096 length-page_bytes leaf.pages.items i c.index.result.now c.args.from c.args.to _ _ within
    c.index.ensures c.requires.order c.requires.within from to))
    c.copy_page.ensures.bytes
