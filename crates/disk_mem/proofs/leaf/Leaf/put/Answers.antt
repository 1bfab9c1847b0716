use Rattle.std.proofs.Common.{◌≡◌, ◌+◌, ◌*◌, ◌<◌, ℕ, List, Option, length, Some, ap, ◌∙◌, arith}
use Rattle.std.proofs.lemmas.List.{set-set}
use Rattle.disk_core.specs.Bytes.{put_at}
use Rattle.disk_mem.specs.declared.page.Page.{Page}
use Rattle.disk_mem.specs.Pages.{page_bytes, content}
use Rattle.disk_mem.proofs.Content.{place, place_page, cell_put, length-page_bytes}
use Rattle.disk_mem.proofs.leaf.Leaf.put.Goals as goal

pub returns-clause-bytes : goal.returns-clause-bytes
returns-clause-bytes c =
    let leaf = c.args.self.now in
    let slot : Option Page = c.index_mut.result.now in
    let put : c.put.new.self.bytes.items ≡ put_at (page_bytes slot) c.args.from c.args.piece.now =
    c.put.ensures ∙ ap (λ (xs : List ℕ). put_at xs c.args.from c.args.piece.now)
    (c.page_or_blank-page.ensures.bytes ∙ ap page_bytes c.take-slot.ensures.value) in
    let within : c.args.index < length leaf.pages.items =
    omega (arith, c.requires.inside, leaf.full, leaf.pages.ok.0) in
    let at : 4096 * c.args.index + c.args.from ≡ place 4096 c.args.index + c.args.from =
    omega (arith, place_page c.args.index) in
    ap (λ (pages : List (Option Page)). content page_bytes pages)
    (set-set leaf.pages.items c.args.index c.take-slot.new.self (Some c.put.new.self))
    ∙ cell_put page_bytes 4096 length-page_bytes leaf.pages.items c.args.index slot (Some c.put.new.self)
    c.args.from (4096 * c.args.index + c.args.from) c.args.piece.now within c.index_mut.ensures.value
    c.requires.within put at
