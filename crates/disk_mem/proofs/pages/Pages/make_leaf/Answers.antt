use Rattle.std.proofs.Common.{◌≡◌, ◌<◌, ◌≤◌, ◌*◌, ℕ, Bool, true, false, map, is_some, List, Option, Some, length, get_or, vec_len, sym, ap, subst, ◌∙◌, arith}
use Rattle.std.proofs.lemmas.List.{set-set}
use Rattle.disk_mem.specs.declared.leaf.Leaf.{Leaf}
use Rattle.disk_mem.specs.Pages.{Paged, leaf_bytes, shown}
use Rattle.disk_mem.proofs.Content.{shown_made, length-shown, made_there, made_still}
use Rattle.disk_mem.proofs.pages.Pages.make_leaf.Goals as goal

-- the place is in the table
in_table : (size index stock places : ℕ) (bytes : List ℕ) (table : List (Option Leaf)) → shown size table ≡ bytes
    → places ≡ length table → (0 < stock → size ≤ 2097152 * places) → 0 < stock → 2097152 * index < length bytes
    → index < length table
in_table size index stock places bytes table view is covers some inside =
    let all = covers some in
    omega (arith, all, is, inside, ap (λ (xs : List ℕ). length xs) view, length-shown size table)

pub returns-clause-bytes : goal.returns-clause-bytes
returns-clause-bytes c =
    let p = c.self.inside in
    let leaf : Option Leaf = Some c.leaf_or_blank-leaf.result in
    let view = ap (λ (v : Paged). v.bytes) c.self.view_is in
    let lt = in_table p.size c.args.index (vec_len p.leaves) (vec_len p.table) c.args.self.now.bytes p.table.items view
    p.table.ok.0 c.self.invariant (omega (arith, c.requires.stock, ap (λ (v : Paged). v.leaves) c.self.view_is))
    c.requires.inside in
    ap (λ (leaves : List (Option Leaf)). shown p.size leaves)
    (set-set p.table.items c.args.index c.take-slot.new.self leaf)
    ∙ shown_made p.size p.table.items c.args.index c.index_mut.result.now leaf lt c.index_mut.ensures.value
    (c.leaf_or_blank-leaf.ensures.bytes ∙ ap (λ (l : Option Leaf). leaf_bytes l) c.take-slot.ensures.value)
    ∙ view

pub returns-clause-made : goal.returns-clause-made
returns-clause-made c =
    let p = c.self.inside in
    let leaf = c.leaf_or_blank-leaf.result in
    let view = ap (λ (v : Paged). v.bytes) c.self.view_is in
    let lt = in_table p.size c.args.index (vec_len p.leaves) (vec_len p.table) c.args.self.now.bytes p.table.items view
    p.table.ok.0 c.self.invariant (omega (arith, c.requires.stock, ap (λ (v : Paged). v.leaves) c.self.view_is))
    c.requires.inside in
    ap (λ (leaves : List (Option Leaf)). get_or (map is_some leaves) c.args.index false)
    (set-set p.table.items c.args.index c.take-slot.new.self (Some leaf))
    ∙ made_there p.table.items c.args.index leaf lt

pub returns-clause-kept : goal.returns-clause-kept
returns-clause-kept c k was =
    let p = c.self.inside in
    let leaf = c.leaf_or_blank-leaf.result in
    ap (λ (leaves : List (Option Leaf)). get_or (map is_some leaves) k false)
    (set-set p.table.items c.args.index c.take-slot.new.self (Some leaf))
    ∙ made_still p.table.items c.args.index k leaf
    (ap (λ (v : Paged). get_or v.made k false) c.self.view_is ∙ was)
